-- A queue takes a batch.
use Rattle.std.proofs.Common.{inl, inr, ◌≡◌, true, false, cond, refl, ◌+◌, ◌<◌, List, [], ◌∷◌, ◌++◌, length, take, drop, sym, ap, ◌∙◌, arith}
use Rattle.std.specs.Prelude.{Contains, nat_lt, slice_set, ◌==◌}
use Rattle.std.proofs.lemmas.Bool.{cases_Bool, eqb-true, lt-ltb, le-ltb, ltb-false, ltb-true}
use Rattle.std.proofs.lemmas.List.{append_assoc, get_or-map, get_or_past, length-append, length-set, map-set, take_at}
use Rattle.std.proofs.lemmas.List.Elements.{All-contains, Contains-append_right}
use Rattle.acc_base.proofs.Members.{member_first, member_filter}
use Rattle.acc_base.proofs.SameQueue.{same_queue_is}
use Rattle.acc_base.specs.declared.config.TheConstants.{MAX_HOSTS}
use Rattle.acc_base.specs.declared.ids.QueueAt.{QueueAt}
use Rattle.acc_base.specs.declared.ids.TheConstants.{QUEUES}
use Rattle.acc_base.specs.Queues.{same_queue, seat}
use Rattle.acc_batch.specs.declared.label.Label.{Label}
use Rattle.acc_batch.specs.declared.label.OpLabel.{OpLabel}
use Rattle.acc_batch.specs.Labels.{on_queue, ops_of}
use Rattle.acc_batch.proofs.Seats.{seat_there}
use Rattle.acc_host.specs.declared.event.Event.TheVariants as event
use Rattle.acc_core.specs.Machine.{State, did, idle, is_there, taken_on, batches_held, ops_left, queue_step, step, take_step, labels_of}
use Rattle.acc_core.specs.inner.Queues.{QueueView, no_queue, queue_in, queues_with}
use Rattle.acc_core.specs.inner.Ties.{QueueIs, Queued}
use Rattle.acc_work.specs.Lanes.{LaneView, no_lane, lane_with_batch, lanes_with}
use Rattle.acc_work.specs.Logs.{performed}
use Rattle.acc_work.specs.Works.{WorkView, KeepsOrder, lane_at, taken_counts}
use Rattle.acc_core.proofs.Lanes.{left_is}
use Rattle.acc_core.proofs.Seats.{IsSeated, both_changed, seated_there}

-- the state where the queues took what their lanes say
abbrev pub with_taken : State → WorkView → State
with_taken w v = record w { taken = taken_counts v }

-- the work side with one more batch, which is in its queue's lane
abbrev pub filled_with : WorkView → QueueAt → Label → WorkView
filled_with v at b = record v { lanes = lanes_with v.lanes at (lane_with_batch (lane_at v at) b) }

-- the count of a queue's batches is that of its lane
pub taken_is : (w : State) (v : WorkView) (at : QueueAt) → at.queue < QUEUES → seat at < length v.lanes → taken_on (with_taken w v) at ≡ length (lane_at v at).taken
taken_is w v at low there =
    get_or-map (λ (l : LaneView). length l.taken) v.lanes (seat at) no_lane 0 there ∙ ap (λ (l : LaneView). length l.taken) (sym (seat_there no_lane v.lanes at low))

-- what the lane holds is what the machine calls the rest
pub lane_is_rest : (w : State) (v : WorkView) (queues : List QueueView) (at : QueueAt) (q : QueueView) → IsSeated w.config.devices v queues at → QueueIs w.config (labels_of w) at (lane_at v at) q → KeepsOrder v → v.work ≡ w.work
    → ops_left (with_taken w v) (labels_of w) at ≡ (lane_at v at).left
lane_is_rest w v queues at q s h k same =
    let lane = lane_at v at in
    ap (λ n. drop (length (performed at w.work)) (ops_of (take n (on_queue at (labels_of w))))) (taken_is w v at s.queue s.lane)
    ∙ (ap (λ ls. drop (length (performed at w.work)) (ops_of (take (length lane.taken) ls))) h.split
    ∙ (ap (λ work. drop (length (performed at work)) (ops_of (take (length lane.taken) (lane.taken ++ q.held)))) (sym same)
    ∙ left_is lane.taken q.held (performed at v.work) lane.left (k.order at).in_order))

-- what was performed, and the lane's rest, are the operations of what was taken
pub taken_in_order : (w : State) (v : WorkView) (queues : List QueueView) (at : QueueAt) (q : QueueView) → IsSeated w.config.devices v queues at → QueueIs w.config (labels_of w) at (lane_at v at) q → KeepsOrder v → v.work ≡ w.work
    → performed at w.work ++ (lane_at v at).left ≡ ops_of (take (taken_on (with_taken w v) at) (on_queue at (labels_of w)))
taken_in_order w v queues at q s h k same =
    let lane = lane_at v at in
    ap (λ work. performed at work ++ lane.left) (sym same)
    ∙ ((k.order at).in_order
    ∙ (ap ops_of (sym (take_at lane.taken q.held (length lane.taken) refl))
    ∙ (ap (λ ls. ops_of (take (length lane.taken) ls)) (sym h.split)
    ∙ ap (λ n. ops_of (take n (on_queue at (labels_of w)))) (sym (taken_is w v at s.queue s.lane)))))

pub held_is : (w : State) (v : WorkView) (queues : List QueueView) (at : QueueAt) (q : QueueView) → IsSeated w.config.devices v queues at → QueueIs w.config (labels_of w) at (lane_at v at) q → batches_held (with_taken w v) (labels_of w) at ≡ length q.held
held_is w v queues at q s h = omega (arith, taken_is w v at s.queue s.lane, ap length h.split, length-append (lane_at v at).taken q.held)

-- the machine counts one more batch
taken_with : (w : State) (v : WorkView) (at : QueueAt) (b : Label) → at.queue < QUEUES → seat at < length v.lanes
    → slice_set (taken_counts v) (seat at) (taken_on (with_taken w v) at + 1) ≡ taken_counts (filled_with v at b)
taken_with w v at b low there =
    let more : taken_on (with_taken w v) at + 1 ≡ length ((lane_at v at).taken ++ b ∷ []) = omega (arith, taken_is w v at low there, length-append (lane_at v at).taken (b ∷ [])) in
    ap (λ n. slice_set (taken_counts v) (seat at) n) more ∙ sym (map-set (λ (l : LaneView). length l.taken) v.lanes (seat at) (lane_with_batch (lane_at v at) b))

pub taken_more : (w : State) (v : WorkView) (queues : List QueueView) (at : QueueAt) (b : Label) (more : List Label) → IsSeated w.config.devices v queues at → Queued w v queues → (queue_in queues at).held ≡ b ∷ more
    → Queued (with_taken w (filled_with v at b)) (filled_with v at b) (queues_with queues at (record { held = more; has_place = true }))
taken_more w v queues at b more s q first =
    let lane = lane_at v at in
    let queue = queue_in queues at in
    let new : QueueView = record { held = more; has_place = true } in
    let h = q.each at in
    record {
      each = both_changed (λ other l k. QueueIs w.config (labels_of w) other l k) (λ other l k. QueueIs w.config (labels_of w) other l k) v.lanes queues at (lane_with_batch lane b) new s.queue s.lane s.held q.each
          (record {
            split = h.split ∙ (ap (λ ls. lane.taken ++ ls) first ∙ sym (append_assoc lane.taken (b ∷ []) more));
            held_low = omega (arith, h.held_low, ap length first);
            in_place = refl;
          })
          (λ other differ l k same. same);
      count = length-set queues (seat at) new ∙ q.count;
      devices = q.devices;
      filled = q.filled;
      hosts = q.hosts;
    }

-- and the machine says that it did
pub takes_did : (w : State) (v : WorkView) (queues : List QueueView) (at : QueueAt) (b : Label) (more : List Label) → IsSeated w.config.devices v queues at → Queued w v queues → KeepsOrder v → v.work ≡ w.work
    → is_there w at ≡ true → (lane_at v at).left ≡ [] → (queue_in queues at).held ≡ b ∷ more → step false (with_taken w v) (event.Take at) ≡ did (with_taken w (filled_with v at b))
takes_did w v queues at b more s q k same there none first =
    let now = with_taken w v in
    let queue = queue_in queues at in
    let h = q.each at in
    let left : ops_left now (labels_of w) at ≡ [] = lane_is_rest w v queues at queue s h k same ∙ none in
    let some : nat_lt 0 (batches_held now (labels_of w) at) ≡ true = lt-ltb 0 (batches_held now (labels_of w) at) (omega (arith, held_is w v queues at queue s h, ap length first)) in
    ap (λ x. queue_step x now (take_step now (labels_of w) at (ops_left now (labels_of w) at))) there
    ∙ (ap (take_step now (labels_of w) at) left
    ∙ (ap (λ x. cond x (did (record w { taken = slice_set (taken_counts v) (seat at) (taken_on now at + 1) })) (idle now)) some
    ∙ ap (λ taken. did (record w { taken = taken })) (taken_with w v at b s.queue s.lane)))

pub no_element : {X : Type 0} (xs : List X) → (length xs == 0) ≡ true → xs ≡ []
no_element [] h = refl
no_element (x ∷ xs) h = absurd (omega (arith, eqb-true (length (x ∷ xs)) 0 h))

-- a queue that holds a batch is there
pub held_there : (w : State) (v : WorkView) (queues : List QueueView) (at : QueueAt) → Queued w v queues → (length (queue_in queues at).held == 0) ≡ false → is_there w at ≡ true
held_there w v queues at q some = elim (cases_Bool (nat_lt at.queue QUEUES)) [
  | inl low ↦ elim (cases_Bool (nat_lt (seat at) (length queues))) [
    | inl seated ↦
        let device : at.device < w.config.devices = omega (arith, ltb-true (seat at) (length queues) seated, ltb-true at.queue QUEUES low, q.count) in
        rw (lt-ltb at.device w.config.devices device, low) refl
    | inr past ↦
        let none : queue_in queues at ≡ no_queue = seat_there no_queue queues at (ltb-true at.queue QUEUES low) ∙ get_or_past queues (seat at) no_queue (ltb-false (seat at) (length queues) past) in
        absurd (holds none)
  ]
  | inr high ↦
      let none : queue_in queues at ≡ no_queue = rw high refl in
      absurd (holds none)
]
  where
    holds : queue_in queues at ≡ no_queue → ⊥
    holds none = let no : true ≡ false = sym (ap (λ (queue : QueueView). length queue.held == 0) none) ∙ some in cc

-- a queue that isn't there takes none
pub takes_absent : (w : State) (at : QueueAt) → is_there w at ≡ false → step false w (event.Take at) ≡ idle w
takes_absent w at e = ap (λ there. queue_step there w (take_step w (labels_of w) at (ops_left w (labels_of w) at))) e

-- where something is left in the lane, none is taken
pub takes_idle : (w : State) (v : WorkView) (queues : List QueueView) (at : QueueAt) → IsSeated w.config.devices v queues at → Queued w v queues → KeepsOrder v → v.work ≡ w.work → is_there w at ≡ true
    → (length (lane_at v at).left == 0) ≡ false → step false (with_taken w v) (event.Take at) ≡ idle (with_taken w v)
takes_idle w v queues at s q k same there some =
    rw (there, lane_is_rest w v queues at (queue_in queues at) s (q.each at) k same) (by_left (lane_at v at).left refl)
  where
    by_left : (left : List OpLabel) → (lane_at v at).left ≡ left → take_step (with_taken w v) (labels_of w) at left ≡ idle (with_taken w v)
    by_left [] e = let f : true ≡ false = sym (ap (λ ops. length ops == 0) e) ∙ some in cc
    by_left (op ∷ ops) e = refl

-- nor where the queue holds none
pub takes_none : (w : State) (v : WorkView) (queues : List QueueView) (at : QueueAt) → IsSeated w.config.devices v queues at → Queued w v queues → KeepsOrder v → v.work ≡ w.work → is_there w at ≡ true
    → (lane_at v at).left ≡ [] → (queue_in queues at).held ≡ [] → step false (with_taken w v) (event.Take at) ≡ idle (with_taken w v)
takes_none w v queues at s q k same there none empty =
    let now = with_taken w v in
    let queue = queue_in queues at in
    let h = q.each at in
    let left : ops_left now (labels_of w) at ≡ [] = lane_is_rest w v queues at queue s h k same ∙ none in
    let no_batch : nat_lt 0 (batches_held now (labels_of w) at) ≡ false = le-ltb 0 (batches_held now (labels_of w) at) (omega (arith, held_is w v queues at queue s h, ap length empty)) in
    ap (λ x. queue_step x now (take_step now (labels_of w) at (ops_left now (labels_of w) at))) there
    ∙ (ap (take_step now (labels_of w) at) left
    ∙ ap (λ x. cond x (did (record w { taken = slice_set (taken_counts v) (seat at) (taken_on now at + 1) })) (idle now)) no_batch)

-- whatever is left in its lane, and whether it is there or not
pub takes_no_batch : (w : State) (v : WorkView) (queues : List QueueView) (at : QueueAt) → Queued w v queues → KeepsOrder v → v.work ≡ w.work → (length (queue_in queues at).held == 0) ≡ true → step false (with_taken w v) (event.Take at) ≡ idle (with_taken w v)
takes_no_batch w v queues at q k same none = elim (cases_Bool (is_there w at)) [
  | inl there ↦
      let s = seated_there w v queues at q k there in
      elim (cases_Bool (length (lane_at v at).left == 0)) [
        | inl empty ↦ takes_none w v queues at s q k same there (no_element (lane_at v at).left empty) (no_element (queue_in queues at).held none)
        | inr some ↦ takes_idle w v queues at s q k same there some
      ]
  | inr absent ↦ takes_absent (with_taken w v) at absent
]

-- The queue's first batch can be taken.
pub record CanTake (v : WorkView) (queue : QueueAt) (b : Label) : Type 0 where
  pub at : b.at ≡ queue
  pub host : b.host < MAX_HOSTS
  pub some : 0 < length b.ops

pub can_take : (w : State) (v : WorkView) (queues : List QueueView) (at : QueueAt) (b : Label) (more : List Label) → Queued w v queues → (queue_in queues at).held ≡ b ∷ more → CanTake v at b
can_take w v queues at b more q first = record {
  at = same_queue_is b.at at mine.0;
  host = All-contains (λ (l : Label). l.host < MAX_HOSTS) (labels_of w) b q.hosts mine.1;
  some = All-contains (λ (l : Label). 0 < length l.ops) (labels_of w) b q.filled mine.1;
}
  where
    split : on_queue at (labels_of w) ≡ (lane_at v at).taken ++ b ∷ more
    split = (q.each at).split ∙ ap (λ ls. (lane_at v at).taken ++ ls) first

    mine : (same_queue b.at at ≡ true) × Contains (labels_of w) b
    mine = member_filter (λ (l : Label). same_queue l.at at) (labels_of w) b (rw split (Contains-append_right (lane_at v at).taken (b ∷ more) b (member_first b more)))
