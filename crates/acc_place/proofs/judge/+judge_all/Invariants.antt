use Rattle.std.proofs.Common.{length}
use Rattle.acc_place.proofs.judge.+judge_all.Given as goal

abbrev pub decreases-judge_all : goal.decreases-judge_all
decreases-judge_all l = length l.items.now
