use Rattle.std.proofs.Common.{length}
use Rattle.acc_memory.proofs.window.+block_of.Given as goal

abbrev pub decreases-block_of : goal.decreases-block_of
decreases-block_of l = length l.uses.now
