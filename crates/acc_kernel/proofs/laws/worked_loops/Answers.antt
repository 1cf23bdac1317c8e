use Rattle.std.proofs.Common.{refl}
use Rattle.std.specs.Int.{int_wrap}
use Rattle.acc_kernel.proofs.laws.worked_loops.Goals as goal

pub returns-clause-counts_round : goal.returns-clause-counts_round
unfolding int_wrap
returns-clause-counts_round c = refl

pub returns-clause-five_and_six : goal.returns-clause-five_and_six
unfolding int_wrap
returns-clause-five_and_six c = refl

pub returns-clause-both_parts : goal.returns-clause-both_parts
returns-clause-both_parts c = refl

pub returns-clause-nothing : goal.returns-clause-nothing
returns-clause-nothing c = refl

pub returns-clause-uses : goal.returns-clause-uses
returns-clause-uses c = (refl, refl, refl)

pub returns-clause-arrays : goal.returns-clause-arrays
returns-clause-arrays c = refl

pub returns-clause-limits : goal.returns-clause-limits
returns-clause-limits c = (refl, refl, refl, refl, refl)

pub returns-clause-turns_apart : goal.returns-clause-turns_apart
returns-clause-turns_apart c = (refl, refl)

pub returns-clause-faults : goal.returns-clause-faults
returns-clause-faults c = (refl, refl, refl, refl)
