use Rattle.std.proofs.Common.{length}
use Rattle.acc_raw.proofs.chain.Chain.clear.Given as goal

abbrev pub decreases-loop-node : goal.decreases-loop-node
decreases-loop-node g l = length l.self
