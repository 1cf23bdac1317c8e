use Rattle.std.proofs.Common.{◌≡◌}
use Rattle.std.specs.Prelude.{pos, replicate}
use Rattle.acc_raw.proofs.cells.fill.Given as goal

abbrev pub invariant-loop-at : goal.invariant-loop-at
invariant-loop-at l = (l.block.at ≡ l.fn.start.ptr) × (l.block.len ≡ l.fn.len) × (l.block.cells ≡ replicate l.at (pos 0))
