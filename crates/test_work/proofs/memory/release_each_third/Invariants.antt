use Rattle.std.proofs.Common.{◌≡◌, ◌<◌, length}
use Rattle.acc_base.specs.Configurations.{lengths_of}
use Rattle.test_work.proofs.memory.release_each_third.Given as goal

abbrev pub invariant-loop-number : goal.invariant-loop-number
invariant-loop-number g l = (0 < length l.memory.devices) × (lengths_of l.memory.arrays ≡ lengths_of l.config.arrays)
