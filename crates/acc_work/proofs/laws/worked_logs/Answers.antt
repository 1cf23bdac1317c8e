use Rattle.std.proofs.Common.{refl}
use Rattle.std.specs.Int.{int_wrap}
use Rattle.acc_work.proofs.laws.worked_logs.Goals as goal

pub returns-clause-looped : goal.returns-clause-looped
unfolding int_wrap
returns-clause-looped c = (refl, refl)
