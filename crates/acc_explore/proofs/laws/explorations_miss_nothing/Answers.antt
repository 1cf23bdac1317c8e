use Rattle.acc_explore.proofs.Explored.{idle_ends, nothing_missed, no_report_missed}
use Rattle.acc_explore.proofs.laws.explorations_miss_nothing.Goals as goal

pub returns-clause-states : goal.returns-clause-states
returns-clause-states c = nothing_missed

pub returns-clause-reports : goal.returns-clause-reports
returns-clause-reports c = no_report_missed

pub returns-clause-ends : goal.returns-clause-ends
returns-clause-ends c = idle_ends
