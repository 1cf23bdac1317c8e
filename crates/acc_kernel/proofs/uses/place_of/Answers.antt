use Rattle.std.proofs.Common.{refl, length}
use Rattle.std.specs.Prelude.{nat_lt}
use Rattle.acc_kernel.specs.Jobs.{place_of}
use Rattle.acc_kernel.proofs.CellIn.{place_if_none}
use Rattle.acc_kernel.proofs.uses.place_of.Goals as goal

pub returns-in-None : goal.returns-in-None
returns-in-None c =
    place_if_none c.args.uses.now c.args.array (nat_lt (place_of c.args.uses.now c.args.array) (length c.args.uses.now)) refl c.in-None.ensures
