use Rattle.std.proofs.Common.{refl}
use Rattle.std.specs.Int.{int_wrap}
use Rattle.acc_memory.proofs.laws.worked_runs.Goals as goal

pub returns-clause-doubles : goal.returns-clause-doubles
unfolding int_wrap
returns-clause-doubles c = refl

pub returns-clause-others : goal.returns-clause-others
returns-clause-others c = (refl, refl, refl, refl)

pub returns-clause-round : goal.returns-clause-round
unfolding int_wrap
returns-clause-round c = (refl, refl)
