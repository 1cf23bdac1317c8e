use Rattle.std.proofs.Common.{◌≡◌, ◌<◌, length}
use Rattle.acc_base.specs.Configurations.{lengths_of}
use Rattle.test_work.proofs.runs.perform_all.Given as goal

abbrev pub invariant-loop-op : goal.invariant-loop-op
invariant-loop-op g l =
    ((goal.iterator-loop-op g).can_next l.op-iterator × (goal.iterator-loop-op g).is_finite l.op-iterator)
    × ((0 < length l.memory.devices) × (lengths_of l.memory.arrays ≡ lengths_of l.config.arrays))
