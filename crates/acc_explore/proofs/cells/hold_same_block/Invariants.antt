use Rattle.std.proofs.Common.{◌≡◌, ◌+◌, ◌<◌, ◌≤◌, ℕ, true}
use Rattle.acc_explore.specs.inner.Comparing.{HoldSame}
use Rattle.acc_memory.specs.Memories.{find_block, has_cell}
use Rattle.acc_memory.specs.Values.{Block_cell}
use Rattle.acc_work.specs.Remembering.{blocks_in}
use Rattle.acc_explore.proofs.cells.hold_same_block.Given as goal

abbrev pub invariant-loop-index : goal.invariant-loop-index
invariant-loop-index l =
    (cell : ℕ) → l.range.lo ≤ cell → cell < l.range.lo + l.index → has_cell (find_block (blocks_in l.device l.old.work) l.block) cell ≡ true
    → HoldSame l.old l.new (Block_cell l.device l.block cell)
