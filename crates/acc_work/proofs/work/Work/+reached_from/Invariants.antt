use Rattle.std.proofs.Common.{length}
use Rattle.acc_work.proofs.work.Work.+reached_from.Given as goal

abbrev pub decreases-reached_from : goal.decreases-reached_from
decreases-reached_from l = length l.counts.now
