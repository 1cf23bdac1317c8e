use Rattle.acc_base.proofs.Rows.{rows_decide}
use Rattle.acc_base.proofs.config.are_same_arrays.Goals as goal

pub returns : goal.returns
returns c = rw c.eq.ensures (rows_decide c.args.arrays.now c.args.others.now)
