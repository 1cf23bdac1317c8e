use Rattle.std.proofs.Common.{subst}
use Rattle.acc_batch.specs.Ops.{HasItsCells}
use Rattle.acc_batch.proofs.op.Op.new.Goals as goal

pub returns-in_ok-uses-in-Run-clause-ready : goal.returns-in_ok-uses-in-Run-clause-ready
returns-in_ok-uses-in-Run-clause-ready c =
    rw (c.in_ok-kernel-in-Run.ensures.equal, c.in_ok-uses-in-Run.ensures.equal) (subst HasItsCells c.in-Run.is c.requires.cells)
