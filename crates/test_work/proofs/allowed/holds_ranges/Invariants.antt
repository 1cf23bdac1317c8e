use Rattle.std.proofs.Common.{ℕ, ◌<◌, get_or}
use Rattle.acc_kernel.specs.Jobs.{Use}
use Rattle.acc_memory.specs.Memories.{HasRange, held_blocks}
use Rattle.test_work.proofs.allowed.holds_ranges.Given as goal

abbrev pub invariant-loop-block : goal.invariant-loop-block
invariant-loop-block l = (k : ℕ) (d : Use) → k < l.block-index → HasRange (held_blocks l.memory 0) (get_or l.uses k d).0 (get_or l.uses k d).1
