use Rattle.test_grammar.proofs.ProgramSpelling.{program_is_read_again}
use Rattle.test_grammar.proofs.spelling.program_is_read_again.Goals as goal

pub returns : goal.returns
returns c = program_is_read_again
