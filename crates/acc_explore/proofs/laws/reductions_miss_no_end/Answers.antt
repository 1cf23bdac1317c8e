use Rattle.acc_explore.proofs.Commuting.{goes_first}
use Rattle.acc_explore.proofs.Reduced.{reduced_misses_none}
use Rattle.acc_explore.proofs.laws.reductions_miss_no_end.Goals as goal

pub returns-clause-reports : goal.returns-clause-reports
returns-clause-reports c = reduced_misses_none

pub returns-clause-first : goal.returns-clause-first
returns-clause-first c = goes_first
