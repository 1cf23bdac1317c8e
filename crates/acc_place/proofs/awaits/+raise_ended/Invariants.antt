use Rattle.std.proofs.Common.{length}
use Rattle.acc_place.proofs.awaits.+raise_ended.Given as goal

-- the slice gets shorter
abbrev pub decreases-raise_ended : goal.decreases-raise_ended
decreases-raise_ended l = length l.steps.now
