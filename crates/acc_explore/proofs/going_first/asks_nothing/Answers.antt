use Rattle.std.proofs.Common.{◌∙◌}
use Rattle.acc_explore.proofs.GoingFirst.{asks_none}
use Rattle.acc_explore.proofs.going_first.asks_nothing.Goals as goal

pub returns : goal.returns
returns c = (rw c.as_slice.ensures at c.ask_nothing.ensures) ∙ asks_none c.args.program.now
