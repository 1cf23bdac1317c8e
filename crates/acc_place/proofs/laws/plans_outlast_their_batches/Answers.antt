use Rattle.acc_place.proofs.StandingIn.{plan_without}
use Rattle.acc_place.proofs.laws.plans_outlast_their_batches.Goals as goal

pub returns : goal.returns
returns c = plan_without
