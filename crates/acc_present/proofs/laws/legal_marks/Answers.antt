use Rattle.acc_present.proofs.LegalMarks.{legal, structured_is_the_difference}
use Rattle.acc_present.proofs.laws.legal_marks.Goals as goal

pub returns-clause-difference : goal.returns-clause-difference
returns-clause-difference c = structured_is_the_difference

pub returns-clause-table : goal.returns-clause-table
returns-clause-table c = λ marks all_legal. (legal marks all_legal).table
