use Rattle.std.proofs.Common.{length}
use Rattle.std.specs.Prelude.{◌==◌}
use Rattle.acc_base.proofs.Rows.{list_any_rows}
use Rattle.acc_base.proofs.config.has_empty_array.Goals as goal

pub returns : goal.returns
returns c = rw (list_any_rows (λ cells. length cells == 0) c.args.arrays.now) c.finds_empty.ensures
