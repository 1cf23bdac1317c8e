use Rattle.std.proofs.Common.{arith}
use Rattle.acc_explore.specs.ApartOperations.{host_is_clear}
use Rattle.acc_explore.proofs.ApartTold.{all_from_get}
use Rattle.acc_explore.proofs.apart.hosts_are_clear.Goals as goal

pub returns : goal.returns
returns c = λ so.
    all_from_get (host_is_clear c.args.world.now c.args.at c.args.op.now) c.args.world.now.hosts (λ h host low there. c.loop-number.invariant h host (omega (arith, low, c.loop-number-test.false, c.hosts-number-end.ensures.count)) there)
