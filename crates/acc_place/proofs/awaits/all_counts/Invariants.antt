use Rattle.std.specs.Prelude.{◌≡◌, ◌<◌, ℕ, length, slice_index_or}
use Rattle.acc_base.specs.declared.ids.TheConstants.{QUEUES}
use Rattle.acc_place.specs.inner.Places.{queue_in}
use Rattle.acc_place.proofs.awaits.all_counts.Given as goal

abbrev pub invariant-loop-queue : goal.invariant-loop-queue
invariant-loop-queue l =
    (length l.counts ≡ QUEUES)
    × ((queue : ℕ) → queue < l.queue → slice_index_or l.counts queue 0 ≡ length (queue_in l.labels.queues (record { device = l.device; queue = queue })))
