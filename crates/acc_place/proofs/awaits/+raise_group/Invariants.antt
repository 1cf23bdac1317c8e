use Rattle.std.proofs.Common.{length}
use Rattle.acc_place.proofs.awaits.+raise_group.Given as goal

-- the slice gets shorter
abbrev pub decreases-raise_group : goal.decreases-raise_group
decreases-raise_group l = length l.steps.now
