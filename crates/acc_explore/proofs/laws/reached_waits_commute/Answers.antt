use Rattle.acc_explore.proofs.ReachedFirst.{reached_commute}
use Rattle.acc_explore.proofs.laws.reached_waits_commute.Goals as goal

pub returns : goal.returns
returns c = reached_commute
