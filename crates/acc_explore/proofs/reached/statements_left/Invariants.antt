use Rattle.std.proofs.Common.{◌≡◌, take}
use Rattle.acc_explore.specs.ReachedWaits.{statements_left}
use Rattle.acc_explore.proofs.reached.statements_left.Given as goal

abbrev pub invariant-loop-number : goal.invariant-loop-number
invariant-loop-number l = l.count ≡ statements_left (take l.number l.world.hosts)
