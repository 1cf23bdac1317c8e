use Rattle.std.proofs.Common.{length}
use Rattle.acc_place.proofs.plan.+are_idle.Given as goal

-- the slice gets shorter
abbrev pub decreases-are_idle : goal.decreases-are_idle
decreases-are_idle l = length l.steps.now
