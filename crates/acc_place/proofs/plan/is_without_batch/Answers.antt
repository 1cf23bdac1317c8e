use Rattle.acc_place.proofs.PlanOf.{idle_steps}
use Rattle.acc_place.proofs.plan.is_without_batch.Goals as goal

pub returns-then-not-is_alone-clause-ops : goal.returns-then-not-is_alone-clause-ops
returns-then-not-is_alone-clause-ops c = λ yes. rw c.in-None.is (idle_steps c.args.steps.now (c.are_idle.ensures yes))
