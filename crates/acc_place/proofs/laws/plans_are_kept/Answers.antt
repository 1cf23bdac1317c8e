use Rattle.acc_place.proofs.StandingIn.{plan_at_closing, plan_kept, plan_beside}
use Rattle.acc_place.proofs.laws.plans_are_kept.Goals as goal

pub returns-clause-accepted : goal.returns-clause-accepted
returns-clause-accepted c = plan_kept

pub returns-clause-planned : goal.returns-clause-planned
returns-clause-planned c = plan_beside

pub returns-clause-closed : goal.returns-clause-closed
returns-clause-closed c = plan_at_closing
