use Rattle.std.specs.Prelude.{◌≡◌, ◌<◌, ◌≤◌, ℕ, length, max, slice_index_or}
use Rattle.acc_base.specs.declared.ids.TheConstants.{QUEUES}
use Rattle.acc_place.proofs.awaits.raise_all.Given as goal

abbrev pub invariant-loop-queue : goal.invariant-loop-queue
invariant-loop-queue l =
    (length l.numbers ≡ QUEUES)
    × ((queue : ℕ) → queue < l.queue → slice_index_or l.numbers queue 0 ≡ max (slice_index_or l.fn.numbers queue 0) (slice_index_or l.others queue 0))
    × ((queue : ℕ) → l.queue ≤ queue → slice_index_or l.numbers queue 0 ≡ slice_index_or l.fn.numbers queue 0)
