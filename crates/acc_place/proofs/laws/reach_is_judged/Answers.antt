use Rattle.acc_place.proofs.ReachJudged.{reach_judged}
use Rattle.acc_place.proofs.laws.reach_is_judged.Goals as goal

pub returns : goal.returns
returns c = reach_judged
