use Rattle.test_grammar.proofs.LoopSpelling.{loop_is_read_again}
use Rattle.test_grammar.proofs.spelling.loop_is_read_again.Goals as goal

pub returns : goal.returns
returns c = loop_is_read_again
