use Rattle.test_grammar.proofs.ExpressionSpelling.{expression_is_read_again}
use Rattle.test_grammar.proofs.spelling.expression_is_read_again.Goals as goal

pub returns : goal.returns
returns c = expression_is_read_again
