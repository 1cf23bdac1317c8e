use Rattle.std.proofs.Common.{refl}
use Rattle.std.specs.Int.{int_wrap}
use Rattle.acc_kernel.proofs.laws.worked_values.Goals as goal

pub returns-clause-wraps : goal.returns-clause-wraps
unfolding int_wrap
returns-clause-wraps c = (refl, refl, refl, refl)

pub returns-clause-calculates : goal.returns-clause-calculates
unfolding int_wrap
returns-clause-calculates c = refl

pub returns-clause-compares : goal.returns-clause-compares
returns-clause-compares c = (refl, refl, refl)

pub returns-clause-chooses : goal.returns-clause-chooses
unfolding int_wrap
returns-clause-chooses c = (refl, refl, refl)

pub returns-clause-reads : goal.returns-clause-reads
unfolding int_wrap
returns-clause-reads c = refl

pub returns-clause-turns : goal.returns-clause-turns
unfolding int_wrap
returns-clause-turns c = (refl, refl, refl, refl)
