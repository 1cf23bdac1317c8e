use Rattle.std.proofs.Common.{length}
use Rattle.acc_explore.proofs.digest.write_directives.Given as goal

abbrev pub decreases-loop-own : goal.decreases-loop-own
decreases-loop-own l = length l.owns
