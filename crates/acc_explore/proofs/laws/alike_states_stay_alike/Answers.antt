use Rattle.acc_explore.proofs.AlikeReports.{report_same}
use Rattle.acc_explore.proofs.AlikeSteps.{step_keeps_alike, is_equivalence}
use Rattle.acc_explore.proofs.laws.alike_states_stay_alike.Goals as goal

pub returns-clause-steps : goal.returns-clause-steps
returns-clause-steps c = step_keeps_alike

pub returns-clause-reports : goal.returns-clause-reports
returns-clause-reports c = report_same

pub returns-clause-equivalence : goal.returns-clause-equivalence
returns-clause-equivalence c = is_equivalence
