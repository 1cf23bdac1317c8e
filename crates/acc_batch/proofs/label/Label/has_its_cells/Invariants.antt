use Rattle.std.proofs.Common.{ℕ, ◌<◌, get_or}
use Rattle.acc_batch.specs.declared.label.OpLabel.{OpLabel}
use Rattle.acc_batch.specs.Ops.{HasItsCells}
use Rattle.acc_batch.proofs.label.Label.has_its_cells.Given as goal

abbrev pub invariant-loop-op : goal.invariant-loop-op
invariant-loop-op l = (k : ℕ) (d : OpLabel) → k < l.op-index → HasItsCells (get_or l.ops k d)
