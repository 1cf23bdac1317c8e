use Rattle.std.proofs.Common.{◌≡◌, ◌<◌, ℕ, true}
use Rattle.acc_base.specs.Configurations.{has_range}
use Rattle.acc_explore.specs.inner.Comparing.{HoldSame}
use Rattle.acc_memory.specs.Values.{Host_cell}
use Rattle.acc_explore.proofs.cells.hold_same_array.Given as goal

abbrev pub invariant-loop-cell : goal.invariant-loop-cell
invariant-loop-cell l =
    (cell : ℕ) → cell < l.cell → has_range l.old.config.arrays (record { array = l.array; lo = cell; len = 1 }) ≡ true → HoldSame l.old l.new (Host_cell l.array cell)
