use Rattle.std.proofs.Common.{length}
use Rattle.acc_place.proofs.awaits.+awaits_none.Given as goal

-- the slice gets shorter
abbrev pub decreases-awaits_none : goal.decreases-awaits_none
decreases-awaits_none l = length l.numbers.now
