-- A queue goes on where labels, log and what was taken let it; so some queue does, as long as an operation is left.
use Rattle.std.proofs.Common.{inl, inr, ◌≡◌, ℕ, ◌+◌, ◌<◌, Bool, true, false, cond, List, [], ◌∷◌, length, refl, sym, ap, subst, ◌∙◌, arith}
use Rattle.std.specs.Prelude.{All, Contains, nat_lt, ◌||◌, ◌==◌, slice_set}
use Rattle.std.specs.List.{list_any}
use Rattle.std.proofs.lemmas.Bool.{and_from, cases_Bool, lt-ltb, ltb-true}
use Rattle.std.proofs.lemmas.List.Elements.{All-contains, All-head, All-tail, All-weaker}
use Rattle.acc_base.specs.declared.ids.QueueAt.{QueueAt}
use Rattle.acc_base.specs.declared.ids.TheConstants.{QUEUES}
use Rattle.acc_base.specs.Queues.{at_seat, queue_count, same_queue, seat}
use Rattle.acc_base.proofs.Members.{member_first, member_rest}
use Rattle.acc_base.proofs.SameQueue.{same_queue_is}
use Rattle.acc_batch.specs.declared.label.Label.{Label}
use Rattle.acc_batch.specs.declared.label.OpLabel.{OpLabel}
use Rattle.acc_batch.specs.Labels.{on_queue, ops_of}
use Rattle.acc_batch.proofs.Seats.{one_seat}
use Rattle.acc_place.proofs.LabelsSound.{labels_sound}
use Rattle.acc_place.proofs.LabelsThere.{labels_there}
use Rattle.acc_work.specs.Enabled.{enabled, enabled_by, has_left}
use Rattle.acc_work.specs.Logs.{performed}
use Rattle.acc_work.specs.Works.{WorkView, KeepsOrder, goes_on, lane_at}
use Rattle.acc_work.proofs.NeverStuck.{passing, passes, never_stuck}
use Rattle.acc_core.specs.Enabled.{is_did, is_enabled, is_left, SomeEnabled}
use Rattle.acc_core.specs.Legality.{IsLegalState}
use Rattle.acc_core.specs.Machine.{State, is_there, labels_of, taken_on, batches_held, ops_left, take_step, perform_step, can_perform, did, idle, with_op}
use Rattle.acc_core.specs.inner.Queues.{QueueView, queue_in}
use Rattle.acc_core.specs.inner.Ties.{Queued}
use Rattle.acc_core.proofs.PerformOp.{goes_next}
use Rattle.acc_core.proofs.HavingItems.{have_items}
use Rattle.acc_core.proofs.Seats.{IsSeated}
use Rattle.acc_core.proofs.TakeBatch.{with_taken, lane_is_rest}

-- by what is left of the batches that were taken
by_rest : (w : State) (at : QueueAt) (left : List OpLabel)
    → (is_did (take_step w (labels_of w) at left).reply || is_did (perform_step w (labels_of w) at left).reply) ≡ enabled_by (labels_of w) w.work (batches_held w (labels_of w) at) at left
by_rest w at [] =
    elim (nat_lt 0 (batches_held w (labels_of w) at)) as (λ b. (is_did (cond b (did (record w { taken = slice_set w.taken (seat at) (taken_on w at + 1) })) (idle w)).reply || false) ≡ (b || false)) [ true ↦ refl | false ↦ refl ]
by_rest w at (op ∷ ops) =
    elim (can_perform (labels_of w) w.work at op) as (λ b. is_did (cond b (did (with_op w at op)) (idle w)).reply ≡ b) [ true ↦ refl | false ↦ refl ]

pub enabled_says : (w : State) (at : QueueAt) → is_there w at ≡ true → is_enabled w at ≡ enabled (labels_of w) w.work (taken_on w at) at
enabled_says w at there = rw there (by_rest w at (ops_left w (labels_of w) at))

-- by the lane, where something is left in it
pub enabled_filled : (w : State) (v : WorkView) (queues : List QueueView) (at : QueueAt) → IsSeated w.config.devices v queues at → Queued w v queues → Queued (with_taken w v) v queues → KeepsOrder v → v.work ≡ w.work
    → is_there w at ≡ true → (length (lane_at v at).left == 0) ≡ false → is_enabled (with_taken w v) at ≡ goes_on v at (lane_at v at).left
enabled_filled w v queues at s q now k same there some =
    enabled_says (with_taken w v) at there ∙ rw (lane_is_rest w v queues at (queue_in queues at) s (q.each at) k same) (by_left (lane_at v at).left refl)
  where
    by_left : (left : List OpLabel) → (lane_at v at).left ≡ left → enabled_by (labels_of w) w.work (batches_held (with_taken w v) (labels_of w) at) at left ≡ goes_on v at left
    by_left [] e = absurd (let wrong : true ≡ false = sym (ap (λ ops. length ops == 0) e) ∙ some in cc)
    by_left (op ∷ ops) e = goes_next (with_taken w v) v queues at op ops now k e same

-- Some queue goes on.
pub some_enabled : (w : State) → IsLegalState w → is_left w ≡ true → SomeEnabled w
some_enabled w legal left =
    let labels = labels_of w in
    let sound = labels_sound w.config w.history w.counts legal.accepted in
    let any = never_stuck labels w.work (taken_on w) sound.ordered (have_items w legal.counts) left in
    let p = passing (λ (l : Label). enabled labels w.work (taken_on w l.at) l.at) labels any in
    let at = p.it.at in
    let place = All-contains (λ (l : Label). (l.at.device < w.config.devices) × (l.at.queue < QUEUES) × (0 < length l.ops)) labels p.it (labels_there w.config w.history w.counts legal.accepted) p.member in
    let there : is_there w at ≡ true = and_from (nat_lt at.device w.config.devices) (nat_lt at.queue QUEUES) (lt-ltb at.device w.config.devices place.0) (lt-ltb at.queue QUEUES place.1) in
    (at, enabled_says w at there ∙ p.holds)

-- the first label of a queue
record FirstOn (labels : List Label) (at : QueueAt) : Type 0 where
  label : Label
  member : Contains labels label
  here : label.at ≡ at

first_on : (labels : List Label) (at : QueueAt) → 0 < length (ops_of (on_queue at labels)) → FirstOn labels at
first_on [] at some = absurd (omega (arith, some))
first_on (l ∷ labels) at some = elim (cases_Bool (same_queue l.at at)) [
  | inl same ↦ record { label = l; member = member_first l labels; here = same_queue_is l.at at same }
  | inr differ ↦
      let later = first_on labels at (rw differ at some) in
      record { label = later.label; member = member_rest later.label l labels later.member; here = later.here }
]

none_passes : {X : Type 0} (p : X → Bool) (xs : List X) → All (λ x. p x ≡ false) xs → list_any p xs ≡ false
none_passes p [] h = refl
none_passes p (x ∷ xs) h = rw (All-head (λ y. p y ≡ false) x xs h) (none_passes p xs (All-tail (λ y. p y ≡ false) x xs h))

-- An operation is left where one of some queue is.
pub left_on : (w : State) (at : QueueAt) → has_left (labels_of w) w.work at ≡ true → is_left w ≡ true
left_on w at left =
    let waits = ltb-true (length (performed at w.work)) (length (ops_of (on_queue at (labels_of w)))) left in
    let f = first_on (labels_of w) at (omega (arith, waits)) in
    passes (λ (l : Label). has_left (labels_of w) w.work l.at) (labels_of w) f.label f.member (rw f.here left)

-- and none where none of any queue is
pub none_left : (w : State) → IsLegalState w → ((n : ℕ) → n < queue_count w.config → has_left (labels_of w) w.work (at_seat n) ≡ false) → is_left w ≡ false
none_left w legal none =
    none_passes (λ (l : Label). has_left (labels_of w) w.work l.at) (labels_of w)
    (All-weaker (λ (l : Label). (l.at.device < w.config.devices) × (l.at.queue < QUEUES) × (0 < length l.ops)) (λ (l : Label). has_left (labels_of w) w.work l.at ≡ false) (λ l there. here l.at there.0 there.1) (labels_of w)
    (labels_there w.config w.history w.counts legal.accepted))
  where
    here : (at : QueueAt) → at.device < w.config.devices → at.queue < QUEUES → has_left (labels_of w) w.work at ≡ false
    here at device low =
        let same : at_seat (seat at) ≡ at = same_queue_is (at_seat (seat at)) at (one_seat (at_seat (seat at)) at (omega arith) low (omega arith)) in
        subst (λ q. has_left (labels_of w) w.work q ≡ false) same (none (seat at) (omega (arith, device, low)))
