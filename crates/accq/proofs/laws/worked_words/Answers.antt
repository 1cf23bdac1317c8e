use Rattle.accq.proofs.WordsMean.{are_asked, are_refused}
use Rattle.accq.proofs.laws.worked_words.Goals as goal

pub returns-clause-asked : goal.returns-clause-asked
returns-clause-asked c = are_asked

pub returns-clause-refused : goal.returns-clause-refused
returns-clause-refused c = are_refused
