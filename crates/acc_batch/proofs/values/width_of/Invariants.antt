use Rattle.std.proofs.Common.{take, ◌<◌, ◌^◌}
use Rattle.acc_batch.proofs.PackedValues.{AreBitsOf}
use Rattle.acc_batch.proofs.values.width_of.Given as goal

abbrev pub invariant-loop-cell : goal.invariant-loop-cell
invariant-loop-cell l = AreBitsOf l.all (take l.cell-index l.cells) × (l.all < 2 ^ 63)
