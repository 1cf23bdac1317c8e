use Rattle.std.proofs.Common.{length}
use Rattle.acc_place.proofs.awaits.+add_awaits.Given as goal

-- the slice gets shorter
abbrev pub decreases-add_awaits : goal.decreases-add_awaits
decreases-add_awaits l = length l.numbers.now
