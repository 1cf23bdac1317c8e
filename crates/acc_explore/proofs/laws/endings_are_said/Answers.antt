use Rattle.acc_explore.proofs.SaidEndings.{endings_said}
use Rattle.acc_explore.proofs.laws.endings_are_said.Goals as goal

pub returns : goal.returns
returns c = endings_said
