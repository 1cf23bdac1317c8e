use Rattle.test_grammar.proofs.WorkedPrograms.{program_spelled, program_sayable}
use Rattle.test_grammar.proofs.worked.worked_spelling.Goals as goal

pub returns-clause-text : goal.returns-clause-text
returns-clause-text c = program_spelled

pub returns-clause-sayable : goal.returns-clause-sayable
returns-clause-sayable c = program_sayable
