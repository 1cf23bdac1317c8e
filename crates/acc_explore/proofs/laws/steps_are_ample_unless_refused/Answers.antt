use Rattle.acc_explore.proofs.AmpleSteps.{ample_unless_refused}
use Rattle.acc_explore.proofs.laws.steps_are_ample_unless_refused.Goals as goal

pub returns : goal.returns
returns c = ample_unless_refused
