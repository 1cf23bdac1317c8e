use Rattle.std.proofs.Common.{◌≤◌, length, take}
use Rattle.std.specs.Prelude.{vec_capacity}
use Rattle.acc_kernel.specs.Jobs.{AreRows}
use Rattle.acc_kernel.proofs.rows.fitted.Given as goal

abbrev pub invariant-loop-range : goal.invariant-loop-range
invariant-loop-range l = AreRows (take l.range-index l.uses) l.rows.items × (length l.uses ≤ vec_capacity l.rows)
