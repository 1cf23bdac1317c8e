-- How many operations were placed on a queue, and whether one of these isn't performed.
use Rattle.std.proofs.Common.{◌≡◌, ◌+◌, ◌<◌, true, List, [], ◌∷◌, length, refl, sym, ap, ◌∙◌, arith}
use Rattle.std.specs.Prelude.{nat_lt}
use Rattle.std.proofs.lemmas.Bool.{le-ltb, lt-ltb}
use Rattle.std.proofs.lemmas.List.{length-append}
use Rattle.acc_base.specs.declared.ids.QueueAt.{QueueAt}
use Rattle.acc_batch.specs.declared.label.Label.{Label}
use Rattle.acc_batch.specs.Labels.{on_queue, ops_of}
use Rattle.acc_batch.proofs.Labels.{ops_of-append}
use Rattle.acc_core.specs.Machine.{State, labels_of}
use Rattle.acc_core.specs.inner.Queues.{QueueView, queue_in}
use Rattle.acc_core.specs.inner.Ties.{Queued}
use Rattle.acc_work.specs.Enabled.{has_left}
use Rattle.acc_work.specs.Logs.{performed}
use Rattle.acc_work.specs.Works.{WorkView, KeepsOrder, lane_at}
use Rattle.acc_core.proofs.BatchesDone.{held_filled}
use Rattle.acc_core.proofs.Lanes.{few_batches}

-- those that are performed, those that are left in the lane, and those of the batches that the queue holds
operations_are : (w : State) (v : WorkView) (queues : List QueueView) (at : QueueAt) → Queued w v queues → KeepsOrder v → v.work ≡ w.work
    → length (performed at w.work) + length (lane_at v at).left + length (ops_of (queue_in queues at).held) ≡ length (ops_of (on_queue at (labels_of w)))
operations_are w v queues at q k same =
    let lane = lane_at v at in
    let held = (queue_in queues at).held in
    let done : length (performed at v.work) + length lane.left ≡ length (ops_of lane.taken) = omega (arith, length-append (performed at v.work) lane.left, ap length (k.order at).in_order) in
    omega (arith, ap (λ ls. length (ops_of ls)) (q.each at).split, ap length (ops_of-append lane.taken held), length-append (ops_of lane.taken) (ops_of held), done, ap (λ work. length (performed at work)) same)

-- One isn't performed where its lane has one, or the queue holds a batch.
pub left_there : (w : State) (v : WorkView) (queues : List QueueView) (at : QueueAt) → Queued w v queues → KeepsOrder v → v.work ≡ w.work → 0 < length (lane_at v at).left + length (queue_in queues at).held
    → has_left (labels_of w) w.work at ≡ true
left_there w v queues at q k same some =
    lt-ltb (length (performed at w.work)) (length (ops_of (on_queue at (labels_of w))))
    (omega (arith, operations_are w v queues at q k same, few_batches (queue_in queues at).held (held_filled w v queues at q), some))

-- Where its lane has none, one is left where the queue holds a batch.
pub left_by_held : (w : State) (v : WorkView) (queues : List QueueView) (at : QueueAt) → Queued w v queues → KeepsOrder v → v.work ≡ w.work → length (lane_at v at).left ≡ 0
    → has_left (labels_of w) w.work at ≡ nat_lt 0 (length (queue_in queues at).held)
left_by_held w v queues at q k same none = by_held (queue_in queues at).held refl
  where
    by_held : (held : List Label) → (queue_in queues at).held ≡ held → has_left (labels_of w) w.work at ≡ nat_lt 0 (length held)
    by_held [] empty =
        le-ltb (length (performed at w.work)) (length (ops_of (on_queue at (labels_of w))))
        (omega (arith, operations_are w v queues at q k same, none, ap (λ ls. length (ops_of ls)) empty))
    by_held (l ∷ ls) first = left_there w v queues at q k same (omega (arith, ap length first)) ∙ sym (lt-ltb 0 (length (l ∷ ls)) (omega arith))
