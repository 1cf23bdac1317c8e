use Rattle.test_grammar.proofs.ActSpelling.{act_is_read_again}
use Rattle.test_grammar.proofs.spelling.act_is_read_again.Goals as goal

pub returns : goal.returns
returns c = act_is_read_again
