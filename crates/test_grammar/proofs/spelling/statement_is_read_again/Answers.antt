use Rattle.test_grammar.proofs.ActSpelling.{statement_is_read_again}
use Rattle.test_grammar.proofs.spelling.statement_is_read_again.Goals as goal

pub returns : goal.returns
returns c = statement_is_read_again
