use Rattle.acc_explore.proofs.OverEnds.{ends_are_over}
use Rattle.acc_explore.proofs.laws.ends_are_over.Goals as goal

pub returns : goal.returns
returns c = ends_are_over
