use Rattle.acc_place.proofs.AwaitedNumbers.{cells_of_in, cells_of_out}
use Rattle.acc_place.proofs.awaits.raise_op.Goals as goal

pub raise_range-requires : goal.raise_range-requires
raise_range-requires c = cells_of_in c.args.op.now c.in-CopyIn.block c.in-CopyIn.range c.in-CopyIn.is c.requires

pub raise_range-requires-in-CopyOut : goal.raise_range-requires-in-CopyOut
raise_range-requires-in-CopyOut c = cells_of_out c.args.op.now c.in-CopyOut.block c.in-CopyOut.range c.in-CopyOut.is c.requires
