use Rattle.std.proofs.Common.{length}
use Rattle.std.specs.Prelude.{nat_lt}
use Rattle.acc_base.specs.declared.config.TheConstants.{MAX_CELLS}
use Rattle.acc_base.proofs.Rows.{list_any_rows}
use Rattle.acc_base.proofs.config.has_long_array.Goals as goal

pub returns : goal.returns
returns c = rw (list_any_rows (λ cells. nat_lt MAX_CELLS (length cells)) c.args.arrays.now) c.finds_long.ensures
