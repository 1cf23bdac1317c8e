use Rattle.std.proofs.Common.{◌∙◌}
use Rattle.acc_memory.specs.Memories.{rows_on}
use Rattle.test_work.proofs.Finding.{made_there}
use Rattle.test_work.proofs.allowed.is_there.Goals as goal

pub returns : goal.returns
returns c = c.is_some.ensures ∙ made_there _ (rows_on c.args.memory.now 0) c.args.block c.block.result (rw c.new.ensures at c.block.ensures)
