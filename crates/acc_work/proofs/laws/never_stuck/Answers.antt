use Rattle.acc_work.proofs.NeverStuck.{never_stuck}
use Rattle.acc_work.proofs.laws.never_stuck.Goals as goal

pub returns : goal.returns
returns c = never_stuck
