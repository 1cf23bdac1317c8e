use Rattle.test_grammar.proofs.ArraySpelling.{arrays_are_read_again}
use Rattle.test_grammar.proofs.spelling.arrays_are_read_again.Goals as goal

pub returns : goal.returns
returns c = arrays_are_read_again
