use Rattle.std.proofs.Common.{length}
use Rattle.acc_place.proofs.judge.+leave_all.Given as goal

abbrev pub decreases-leave_all : goal.decreases-leave_all
decreases-leave_all l = length l.items.now
