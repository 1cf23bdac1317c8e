use Rattle.std.proofs.Common.{length}
use Rattle.acc_explore.proofs.digest.write_items.Given as goal

abbrev pub decreases-loop-item : goal.decreases-loop-item
decreases-loop-item l = length l.items
