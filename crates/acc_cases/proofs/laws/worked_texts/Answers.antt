use Rattle.acc_cases.proofs.WorkedCases.{texts_are_found}
use Rattle.acc_cases.proofs.laws.worked_texts.Goals as goal

pub returns : goal.returns
returns c = texts_are_found
