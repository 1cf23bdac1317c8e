use Rattle.acc_cases.proofs.WorkedCases.{are_refused, are_said}
use Rattle.acc_cases.proofs.laws.worked_options.Goals as goal

pub returns-clause-said : goal.returns-clause-said
returns-clause-said c = are_said

pub returns-clause-refused : goal.returns-clause-refused
returns-clause-refused c = are_refused
