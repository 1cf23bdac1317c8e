use Rattle.std.proofs.Common.{length}
use Rattle.acc_place.proofs.awaits.+raise_named.Given as goal

-- the slice gets shorter
abbrev pub decreases-raise_named : goal.decreases-raise_named
decreases-raise_named l = length l.values.now
