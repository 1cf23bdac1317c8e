use Rattle.std.proofs.Common.{◌<◌, ℕ}
use Rattle.acc_explore.specs.inner.Comparing.{HoldSameArray}
use Rattle.acc_explore.proofs.cells.hold_same_arrays.Given as goal

abbrev pub invariant-loop-array : goal.invariant-loop-array
invariant-loop-array l = (array : ℕ) → array < l.array → HoldSameArray l.old l.new array
