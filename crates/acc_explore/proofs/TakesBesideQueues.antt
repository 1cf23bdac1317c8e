-- A take commutes with what another queue does, and the queue itself performs nothing before it.
use Rattle.std.proofs.Common.{inl, inr, ◌≡◌, ◌+◌, ◌-◌, ◌<◌, true, false, cond, List, [], ◌∷◌, length, refl, sym, ap, ◌∙◌, slice_set, nat_lt, arith}
use Rattle.std.proofs.lemmas.Bool.{cases_Bool}
use Rattle.std.proofs.lemmas.List.{append-nil, set_comm}
use Rattle.acc_base.specs.declared.ids.QueueAt.{QueueAt}
use Rattle.acc_base.specs.declared.ids.TheConstants.{QUEUES}
use Rattle.acc_base.specs.Queues.{same_queue, seat}
use Rattle.acc_base.proofs.SameQueue.{same_queue_is, same_queue_turned}
use Rattle.acc_batch.specs.declared.label.OpLabel.{OpLabel}
use Rattle.acc_batch.specs.Labels.{on_queue}
use Rattle.acc_batch.proofs.Seats.{one_seat}
use Rattle.acc_core.specs.Machine.{State, Outcome, step, labels_of, is_there, taken_on, batches_held, ops_left, idle, did, take_step, can_perform, perform_step, with_op, queue_step}
use Rattle.acc_host.specs.declared.event.Event.TheVariants as event
use Rattle.acc_work.specs.Logs.{performed, one_more}
use Rattle.acc_explore.proofs.FreeTakes.{with_taken, one_taken, behind_take, IsFree, low_queue, queue_there, takes_one, taken_other, left_other, Moves, Keeps, finish, is_idle}

pub performs : (w : State) (at : QueueAt) (op : OpLabel) (ops : List OpLabel) → is_there w at ≡ true → ops_left w (labels_of w) at ≡ op ∷ ops → can_perform (labels_of w) w.work at op ≡ true
    → step false w (event.Perform at) ≡ did (with_op w at op)
performs w at op ops there left can = queue_there w at there (perform_step w (labels_of w) at) left ∙ ap (λ b. cond b (did (with_op w at op)) (idle w)) can

module _ (w : State) (at other : QueueAt) (f : IsFree w at) (there : is_there w other ≡ true) (differ : same_queue at other ≡ false) where
  low : at.queue < QUEUES
  low = low_queue w at f.there

  low_other : other.queue < QUEUES
  low_other = low_queue w other there

  unseen : taken_on (behind_take w at) other ≡ taken_on w other
  unseen = taken_other w at other low low_other differ

  -- takes a batch,
  take_moves : ops_left w (labels_of w) other ≡ [] → nat_lt 0 (batches_held w (labels_of w) other) ≡ true → Moves w at (event.Take other)
  take_moves none some =
      let back = taken_other w other at low_other low (same_queue_turned at other differ) in
      let n = taken_on w at in
      let m = taken_on w other in
      finish w (behind_take w other) at (event.Take other) f (ap (λ (o : Outcome). o.state) (takes_one w other there none some))
      (record { config = refl; taken = back; done = refl; more = []; placed = sym (append-nil (on_queue at (labels_of w))); within = omega arith })
      (ap (λ (o : Outcome). o.state)
      (takes_one (behind_take w at) other there (left_other w at other unseen ∙ none) (ap (λ k. nat_lt 0 (length (on_queue other (labels_of w)) - k)) unseen ∙ some))
      ∙ (ap (λ k. with_taken w (slice_set (one_taken w.taken at) (seat other) (k + 1))) unseen
      ∙ (ap (with_taken w) (set_comm w.taken (seat at) (seat other) (n + 1) (m + 1) apart)
      ∙ ap (λ k. with_taken w (slice_set (one_taken w.taken other) (seat at) (k + 1))) (sym back))))
    where
      apart : seat at ≡ seat other → ⊥
      apart e = let no : true ≡ false = sym (one_seat at other low low_other e) ∙ differ in cc

  -- or performs an operation
  perform_moves : (op : OpLabel) (ops : List OpLabel) → ops_left w (labels_of w) other ≡ op ∷ ops → can_perform (labels_of w) w.work other op ≡ true → Moves w at (event.Perform other)
  perform_moves op ops left can =
      finish w (with_op w other op) at (event.Perform other) f (ap (λ (o : Outcome). o.state) (performs w other op ops there left can))
      (record {
        config = refl;
        taken = refl;
        done = ap (λ b. one_more b (performed at w.work) op) (same_queue_turned at other differ);
        more = [];
        placed = sym (append-nil (on_queue at (labels_of w)));
        within = omega arith;
      })
      (ap (λ (o : Outcome). o.state) (performs (behind_take w at) other op ops there (left_other w at other unseen ∙ left) can))

  by_left : (ops : List OpLabel) → ops_left w (labels_of w) other ≡ ops → Keeps w at (event.Take other)
  by_left [] left = elim (cases_Bool (nat_lt 0 (batches_held w (labels_of w) other))) [
    | inl some ↦ inr (inr (take_moves left some))
    | inr none ↦ is_idle w at (event.Take other) (queue_there w other there (take_step w (labels_of w) other) left ∙ ap (λ b. cond b (did (behind_take w other)) (idle w)) none)
  ]
  by_left (op ∷ ops) left = is_idle w at (event.Take other) (queue_there w other there (take_step w (labels_of w) other) left)

  by_next : (ops : List OpLabel) → ops_left w (labels_of w) other ≡ ops → Keeps w at (event.Perform other)
  by_next [] left = is_idle w at (event.Perform other) (queue_there w other there (perform_step w (labels_of w) other) left)
  by_next (op ∷ ops) left = elim (cases_Bool (can_perform (labels_of w) w.work other op)) [
    | inl can ↦ inr (inr (perform_moves op ops left can))
    | inr held ↦ is_idle w at (event.Perform other) (queue_there w other there (perform_step w (labels_of w) other) left ∙ ap (λ b. cond b (did (with_op w other op)) (idle w)) held)
  ]

-- any other queue takes a batch, or none
pub keeps_take : (w : State) (at other : QueueAt) → IsFree w at → Keeps w at (event.Take other)
keeps_take w at other f = elim (cases_Bool (same_queue at other)) [
  | inl same ↦ inl (ap event.Take (sym (same_queue_is at other same)))
  | inr differ ↦ elim (cases_Bool (is_there w other)) [
    | inl there ↦ by_left w at other f there differ (ops_left w (labels_of w) other) refl
    | inr absent ↦ is_idle w at (event.Take other) (ap (λ b. queue_step b w (take_step w (labels_of w) other (ops_left w (labels_of w) other))) absent)
  ]
]

-- and the queue itself performs nothing
pub keeps_perform : (w : State) (at other : QueueAt) → IsFree w at → Keeps w at (event.Perform other)
keeps_perform w at other f = elim (cases_Bool (is_there w other)) [
  | inl there ↦ elim (cases_Bool (same_queue at other)) [
    | inl same ↦
        let left : ops_left w (labels_of w) other ≡ [] = ap (λ q. ops_left w (labels_of w) q) (sym (same_queue_is at other same)) ∙ f.none_left in
        is_idle w at (event.Perform other) (queue_there w other there (perform_step w (labels_of w) other) left)
    | inr differ ↦ by_next w at other f there differ (ops_left w (labels_of w) other) refl
  ]
  | inr absent ↦ is_idle w at (event.Perform other) (ap (λ b. queue_step b w (perform_step w (labels_of w) other (ops_left w (labels_of w) other))) absent)
]
