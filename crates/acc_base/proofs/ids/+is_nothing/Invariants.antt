use Rattle.std.proofs.Common.{length}
use Rattle.acc_base.proofs.ids.+is_nothing.Given as goal

abbrev pub decreases-is_nothing : goal.decreases-is_nothing
decreases-is_nothing l = length l.counts.now
