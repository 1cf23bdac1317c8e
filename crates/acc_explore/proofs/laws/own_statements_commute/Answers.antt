use Rattle.acc_explore.proofs.OwnFirst.{own_commute}
use Rattle.acc_explore.proofs.laws.own_statements_commute.Goals as goal

pub returns : goal.returns
returns c = own_commute
