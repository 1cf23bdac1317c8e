use Rattle.std.proofs.Common.{length}
use Rattle.acc_place.proofs.awaits.+raise_uses.Given as goal

-- the slice gets shorter
abbrev pub decreases-raise_uses : goal.decreases-raise_uses
decreases-raise_uses l = length l.uses.now
