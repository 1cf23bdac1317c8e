use Rattle.std.proofs.Common.{◌≡◌, take}
use Rattle.acc_explore.specs.Takes.{unplaced}
use Rattle.acc_explore.proofs.unplaced.unplaced.Given as goal

abbrev pub invariant-loop-number : goal.invariant-loop-number
invariant-loop-number l = l.count ≡ unplaced (take l.number l.world.hosts)
