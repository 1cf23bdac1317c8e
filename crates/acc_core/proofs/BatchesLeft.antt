-- How many batches are placed and not performed to their end.
use Rattle.std.proofs.Common.{inl, inr, ◌≡◌, ℕ, zero, suc, ◌+◌, ◌*◌, ◌<◌, ◌≤◌, true, false, cond, List, [], ◌∷◌, length, refl, sym, ap, ◌∙◌, arith}
use Rattle.std.specs.Prelude.{All, nat_lt, slice_index_or, slice_set, ◌==◌, ◌^◌}
use Rattle.std.proofs.lemmas.Bool.{cases_Bool, ltb-false, ltb-true}
use Rattle.std.proofs.lemmas.List.{get_or-set_same, length-append, length-set}
use Rattle.std.proofs.lemmas.List.Elements.{All-head, All-tail}
use Rattle.acc_base.specs.declared.config.TheConstants.{MAX_DEVICES, MAX_ROOM}
use Rattle.acc_base.specs.declared.ids.QueueAt.{QueueAt}
use Rattle.acc_base.specs.declared.ids.TheConstants.{QUEUES}
use Rattle.acc_base.specs.Queues.{at_seat, seat}
use Rattle.acc_batch.specs.declared.label.Label.{Label}
use Rattle.acc_batch.specs.declared.label.OpLabel.{OpLabel}
use Rattle.acc_batch.proofs.Seats.{seat_set, seat_there}
use Rattle.acc_host.specs.declared.event.Event.TheVariants as event
use Rattle.acc_work.specs.Lanes.{IsFresh, LaneView, lane_in, lane_with_left, lanes_with, no_lane}
use Rattle.acc_work.specs.Works.{WorkView, KeepsOrder, lane_at}
use Rattle.acc_work.proofs.KeptSteps.{Advanced}
use Rattle.acc_core.specs.Enabled.{is_left}
use Rattle.acc_core.specs.Legality.{IsLegalState}
use Rattle.acc_core.specs.Machine.{State, idle, is_empty, is_there, labels_of, ops_left, step}
use Rattle.acc_core.specs.inner.Queues.{QueueView, empty_queue, no_queue, queue_in, held_with, queues_with}
use Rattle.acc_core.specs.inner.Ties.{Queued, all_batches_left, batches_left}
use Rattle.acc_core.proofs.Enabled.{left_on, none_left}
use Rattle.acc_core.proofs.PerformOp.{performs_absent}
use Rattle.acc_core.proofs.QueueTotals.{left_by_held, left_there}
use Rattle.acc_core.proofs.Seats.{IsSeated, seated, seated_there}
use Rattle.acc_core.proofs.TakeBatch.{lane_is_rest, no_element, takes_absent, takes_none, with_taken}

-- ## The lane, or the batches held, of one queue change

lane_changed : (lanes : List LaneView) (queues : List QueueView) (i : ℕ) (new : LaneView) → i < length lanes → i < length queues
    → all_batches_left (slice_set lanes i new) queues + batches_left (slice_index_or lanes i no_lane) (slice_index_or queues i no_queue) ≡ all_batches_left lanes queues + batches_left new (slice_index_or queues i no_queue)
lane_changed [] queues i new low there = absurd (omega (arith, low))
lane_changed (lane ∷ lanes) [] i new low there = absurd (omega (arith, there))
lane_changed (lane ∷ lanes) (queue ∷ queues) zero new low there = omega arith
lane_changed (lane ∷ lanes) (queue ∷ queues) (suc i) new low there = omega (arith, lane_changed lanes queues i new (omega (arith, low)) (omega (arith, there)))

queue_changed : (lanes : List LaneView) (queues : List QueueView) (i : ℕ) (new : QueueView) → i < length lanes → i < length queues
    → all_batches_left lanes (slice_set queues i new) + batches_left (slice_index_or lanes i no_lane) (slice_index_or queues i no_queue) ≡ all_batches_left lanes queues + batches_left (slice_index_or lanes i no_lane) new
queue_changed [] queues i new low there = absurd (omega (arith, low))
queue_changed (lane ∷ lanes) [] i new low there = absurd (omega (arith, there))
queue_changed (lane ∷ lanes) (queue ∷ queues) zero new low there = omega arith
queue_changed (lane ∷ lanes) (queue ∷ queues) (suc i) new low there = omega (arith, queue_changed lanes queues i new (omega (arith, low)) (omega (arith, there)))

-- whether these are of a batch that isn't performed to its end, as a number
abbrev batch_of : List OpLabel → ℕ
batch_of ops = cond (is_empty ops) 0 1

-- the batch of a lane counts while an operation of it is left
counts_none : (lane : LaneView) (queue : QueueView) → lane.left ≡ [] → batches_left lane queue ≡ length queue.held
counts_none lane queue none =
    let count : batch_of lane.left ≡ 0 = ap batch_of none in
    omega (arith, count)

counts_one : (lane : LaneView) (queue : QueueView) → 0 < length lane.left → batches_left lane queue ≡ 1 + length queue.held
counts_one lane queue some = by_left lane.left some
  where
    by_left : (left : List OpLabel) → 0 < length left → cond (is_empty left) 0 1 + length queue.held ≡ 1 + length queue.held
    by_left [] none = absurd (omega (arith, none))
    by_left (op ∷ left) some = refl

-- One more batch is placed.
pub one_placed : (devices : ℕ) (v : WorkView) (queues : List QueueView) (at : QueueAt) (b : Label) (new : QueueView) → new.held ≡ held_with (queue_in queues at) b → IsSeated devices v queues at
    → all_batches_left v.lanes (queues_with queues at new) ≡ all_batches_left v.lanes queues + 1
one_placed devices v queues at b new pushed s =
    let queue = seat_there no_queue queues at s.queue in
    omega (arith, queue_changed v.lanes queues (seat at) new s.lane s.held, ap length pushed, ap (λ (q : QueueView). length q.held) queue, length-append (queue_in queues at).held (b ∷ []))

-- A batch that is taken is still to be performed.
pub one_taken : (devices : ℕ) (v : WorkView) (queues : List QueueView) (at : QueueAt) (new : LaneView) (b : Label) (more : List Label) → IsSeated devices v queues at → (lane_at v at).left ≡ [] → 0 < length new.left → (queue_in queues at).held ≡ b ∷ more
    → all_batches_left (lanes_with v.lanes at new) (queues_with queues at (record { held = more; has_place = true })) ≡ all_batches_left v.lanes queues
one_taken devices v queues at new b more s none some first =
    let rest : QueueView = record { held = more; has_place = true } in
    let queue = seat_there no_queue queues at s.queue in
    let lane = seat_there no_lane v.lanes at s.queue in
    let queues_then = queue_changed v.lanes queues (seat at) rest s.lane s.held in
    let lanes_then = lane_changed v.lanes (slice_set queues (seat at) rest) (seat at) new s.lane (omega (arith, s.held, length-set queues (seat at) rest)) in
    let held = get_or-set_same queues (seat at) rest no_queue s.held in
    omega (
      arith,
      queues_then,
      lanes_then,
      ap (batches_left new) held ∙ counts_one new rest some,
      ap (batches_left (slice_index_or v.lanes (seat at) no_lane)) held,
      counts_none (slice_index_or v.lanes (seat at) no_lane) rest (ap (λ (l : LaneView). l.left) (sym lane) ∙ none),
      counts_none (slice_index_or v.lanes (seat at) no_lane) (slice_index_or queues (seat at) no_queue) (ap (λ (l : LaneView). l.left) (sym lane) ∙ none),
      ap (λ (q : QueueView). length q.held) queue,
      ap length first,
    )

-- ## An operation is performed

-- what is left in the lane then
left_then : (devices : ℕ) (v v' : WorkView) (queues : List QueueView) (at : QueueAt) → IsSeated devices v queues at → (d : Advanced v v' at) → (lane_at v' at).left ≡ d.ops
left_then devices v v' queues at s d =
    ap (λ lanes. (lane_in lanes at).left) d.performed.lanes ∙ ap (λ (l : LaneView). l.left) (seat_set no_lane v.lanes at (lane_with_left (lane_at v at) d.ops) s.queue s.lane)

-- how many batches are left then, by what is left in the lane
performed_by : (devices : ℕ) (v v' : WorkView) (queues : List QueueView) (at : QueueAt) → IsSeated devices v queues at → (d : Advanced v v' at)
    → all_batches_left v'.lanes queues + 1 ≡ all_batches_left v.lanes queues + batch_of d.ops
performed_by devices v v' queues at s d =
    let lane = seat_there no_lane v.lanes at s.queue in
    let before : 0 < length (slice_index_or v.lanes (seat at) no_lane).left = omega (arith, ap (λ (l : LaneView). length l.left) lane, ap length d.left) in
    omega (
      arith,
      ap (λ lanes. all_batches_left lanes queues) d.performed.lanes,
      lane_changed v.lanes queues (seat at) (lane_with_left (lane_at v at) d.ops) s.lane s.held,
      counts_one (slice_index_or v.lanes (seat at) no_lane) (slice_index_or queues (seat at) no_queue) before,
    )

-- Behind the last operation of a batch there is one batch less, and behind another as many.
pub last_performed : (devices : ℕ) (v v' : WorkView) (queues : List QueueView) (at : QueueAt) → IsSeated devices v queues at → Advanced v v' at → (length (lane_at v' at).left == 0) ≡ true
    → all_batches_left v'.lanes queues + 1 ≡ all_batches_left v.lanes queues
last_performed devices v v' queues at s d last =
    let none : d.ops ≡ [] = sym (left_then devices v v' queues at s d) ∙ no_element (lane_at v' at).left last in
    let count : batch_of d.ops ≡ 0 = ap batch_of none in
    omega (arith, performed_by devices v v' queues at s d, count)

pub other_performed : (devices : ℕ) (v v' : WorkView) (queues : List QueueView) (at : QueueAt) → IsSeated devices v queues at → Advanced v v' at → (length (lane_at v' at).left == 0) ≡ false
    → all_batches_left v'.lanes queues ≡ all_batches_left v.lanes queues
other_performed devices v v' queues at s d more =
    let some : (length d.ops == 0) ≡ false = ap (λ ops. length ops == 0) (sym (left_then devices v v' queues at s d)) ∙ more in
    omega (arith, performed_by devices v v' queues at s d, counted d.ops some)
  where
    counted : (ops : List OpLabel) → (length ops == 0) ≡ false → batch_of ops ≡ 1
    counted [] none = absurd cc
    counted (op ∷ ops) some = refl

-- ## None is left, or some

none_of : (lanes : List LaneView) (queues : List QueueView) (i : ℕ) → all_batches_left lanes queues ≡ 0 → i < length lanes → i < length queues → batches_left (slice_index_or lanes i no_lane) (slice_index_or queues i no_queue) ≡ 0
none_of [] queues i none low there = absurd (omega (arith, low))
none_of (lane ∷ lanes) [] i none low there = absurd (omega (arith, there))
none_of (lane ∷ lanes) (queue ∷ queues) zero none low there = omega (arith, none)
none_of (lane ∷ lanes) (queue ∷ queues) (suc i) none low there = none_of lanes queues i (omega (arith, none)) (omega (arith, low)) (omega (arith, there))

both_none : (left : List OpLabel) (held : List Label) → cond (is_empty left) 0 1 + length held ≡ 0 → (left ≡ []) × (held ≡ [])
both_none [] [] none = (refl, refl)
both_none [] (l ∷ held) none = absurd (omega (arith, none))
both_none (op ∷ left) held none = absurd (omega (arith, none))

-- nothing is in a queue's lane, and it holds nothing
none_on : (devices : ℕ) (v : WorkView) (queues : List QueueView) (at : QueueAt) → IsSeated devices v queues at → all_batches_left v.lanes queues ≡ 0 → ((lane_at v at).left ≡ []) × ((queue_in queues at).held ≡ [])
none_on devices v queues at s none =
    both_none (lane_at v at).left (queue_in queues at).held
    (rw (seat_there no_lane v.lanes at s.queue, seat_there no_queue queues at s.queue) (none_of v.lanes queues (seat at) none s.lane s.held))

-- a queue of which one is left
record SomeOf (lanes : List LaneView) (queues : List QueueView) : Type 0 where
  index : ℕ
  some : 0 < length (slice_index_or lanes index no_lane).left + length (slice_index_or queues index no_queue).held

some_of : (lanes : List LaneView) (queues : List QueueView) → 0 < all_batches_left lanes queues → SomeOf lanes queues
some_of [] queues some = absurd (omega (arith, some))
some_of (lane ∷ lanes) [] some = absurd (omega (arith, some))
some_of (lane ∷ lanes) (queue ∷ queues) some = elim (cases_Bool (nat_lt 0 (length lane.left + length queue.held))) [
  | inl here ↦ record { index = 0; some = ltb-true 0 (length lane.left + length queue.held) here }
  | inr none ↦
      let nothing : length lane.left + length queue.held ≤ 0 = ltb-false 0 (length lane.left + length queue.held) none in
      let rest = some_of lanes queues (omega (arith, some, nothing, few lane.left)) in
      record { index = suc rest.index; some = rest.some }
]
  where
    few : (left : List OpLabel) → cond (is_empty left) 0 1 ≤ length left
    few [] = omega arith
    few (op ∷ left) = omega arith

-- An operation is left exactly while a batch is.
pub left_counted : (w : State) (v : WorkView) (queues : List QueueView) → IsLegalState w → Queued w v queues → KeepsOrder v → v.work ≡ w.work → is_left w ≡ nat_lt 0 (all_batches_left v.lanes queues)
left_counted w v queues legal q k same = elim (cases_Bool (nat_lt 0 (all_batches_left v.lanes queues))) [
  | inl some ↦
      let s = some_of v.lanes queues (ltb-true 0 (all_batches_left v.lanes queues) some) in
      let at = at_seat s.index in
      let low : at.queue < QUEUES = omega arith in
      let here : seat at ≡ s.index = omega arith in
      let lane : lane_at v at ≡ slice_index_or v.lanes s.index no_lane = seat_there no_lane v.lanes at low ∙ ap (λ i. slice_index_or v.lanes i no_lane) here in
      let queue : queue_in queues at ≡ slice_index_or queues s.index no_queue = seat_there no_queue queues at low ∙ ap (λ i. slice_index_or queues i no_queue) here in
      left_on w at (left_there w v queues at q k same (omega (arith, s.some, ap (λ (l : LaneView). length l.left) lane, ap (λ (x : QueueView). length x.held) queue))) ∙ sym some
  | inr none ↦
      let nothing : all_batches_left v.lanes queues ≡ 0 = omega (arith, ltb-false 0 (all_batches_left v.lanes queues) none) in
      none_left w legal (λ n low. (
      let at = at_seat n in
      let device : at.device < w.config.devices = omega (arith, low) in
      let (left, held) = none_on w.config.devices v queues at (seated w v queues at q k device (omega arith)) nothing in
      left_by_held w v queues at q k same (ap length left) ∙ ap (λ ls. nat_lt 0 (length ls)) held
      )) ∙ sym none
]

-- While none is left no queue can go on.
pub none_goes : (w : State) (v : WorkView) (queues : List QueueView) (at : QueueAt) → Queued w v queues → KeepsOrder v → v.work ≡ w.work → all_batches_left v.lanes queues ≡ 0
    → (step false (with_taken w v) (event.Take at) ≡ idle (with_taken w v)) × (step false (with_taken w v) (event.Perform at) ≡ idle (with_taken w v))
none_goes w v queues at q k same none = elim (cases_Bool (is_there w at)) [
  | inl there ↦
      let s = seated_there w v queues at q k there in
      let (left, held) = none_on w.config.devices v queues at s none in
      let rest : ops_left (with_taken w v) (labels_of w) at ≡ [] = lane_is_rest w v queues at (queue_in queues at) s (q.each at) k same ∙ left in
      (takes_none w v queues at s q k same there left held, rw (there, rest) refl)
  | inr absent ↦ (takes_absent (with_taken w v) at absent, performs_absent (with_taken w v) at absent)
]

-- ## At first, and at most

pub none_yet : (lanes : List LaneView) (queues : List QueueView) → All IsFresh lanes → All (λ (q : QueueView). q ≡ empty_queue) queues → all_batches_left lanes queues ≡ 0
none_yet [] queues fresh empty = refl
none_yet (lane ∷ lanes) [] fresh empty = refl
none_yet (lane ∷ lanes) (queue ∷ queues) fresh empty =
    let held : length queue.held ≡ 0 = ap (λ (q : QueueView). length q.held) (All-head (λ (q : QueueView). q ≡ empty_queue) queue queues empty) in
    omega (arith, counts_none lane queue (All-head IsFresh lane lanes fresh).left, held, none_yet lanes queues (All-tail IsFresh lane lanes fresh) (All-tail (λ (q : QueueView). q ≡ empty_queue) queue queues empty))

at_most : (lanes : List LaneView) (queues : List QueueView) → ((i : ℕ) → length (slice_index_or queues i no_queue).held ≤ MAX_ROOM) → all_batches_left lanes queues ≤ length queues * (MAX_ROOM + 1)
at_most [] queues held = omega arith
at_most (lane ∷ lanes) [] held = omega arith
at_most (lane ∷ lanes) (queue ∷ queues) held = omega (arith, held 0, one lane.left, at_most lanes queues (λ i. held (suc i)))
  where
    one : (left : List OpLabel) → cond (is_empty left) 0 1 ≤ 1
    one [] = omega arith
    one (op ∷ left) = omega arith

-- there are always few of them
pub few_left : (w : State) (v : WorkView) (queues : List QueueView) → Queued w v queues → w.config.devices ≤ MAX_DEVICES → w.config.room ≤ MAX_ROOM → all_batches_left v.lanes queues + 1 < 2 ^ 64
few_left w v queues q devices room =
    omega (arith, at_most v.lanes queues held, q.count, devices)
  where
    held : (i : ℕ) → length (slice_index_or queues i no_queue).held ≤ MAX_ROOM
    held i =
        let at = at_seat i in
        let here : seat at ≡ i = omega arith in
        let queue : queue_in queues at ≡ slice_index_or queues i no_queue = seat_there no_queue queues at (omega arith) ∙ ap (λ n. slice_index_or queues n no_queue) here in
        omega (arith, (q.each at).held_low, room, ap (λ (x : QueueView). length x.held) queue)
