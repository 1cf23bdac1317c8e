use Rattle.test_grammar.proofs.RangeSpelling.{range_is_read_again}
use Rattle.test_grammar.proofs.spelling.range_is_read_again.Goals as goal

pub returns : goal.returns
returns c = range_is_read_again
