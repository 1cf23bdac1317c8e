use Rattle.std.proofs.Common.{◌≡◌, ◌≤◌, length, take}
use Rattle.std.specs.Prelude.{vec_capacity}
use Rattle.acc_kernel.specs.Jobs.{zero_rows}
use Rattle.acc_kernel.proofs.rows.zero_rows.Given as goal

abbrev pub invariant-loop-range : goal.invariant-loop-range
invariant-loop-range l = (l.rows.items ≡ zero_rows (take l.range-index l.uses)) × (length l.uses ≤ vec_capacity l.rows)
