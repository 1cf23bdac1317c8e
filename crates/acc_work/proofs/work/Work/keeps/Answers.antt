use Rattle.acc_work.specs.contracts.work.Work.{the_view}
use Rattle.acc_work.proofs.WorkSteps.{keeps_order}
use Rattle.acc_work.proofs.work.Work.keeps.Goals as goal

pub returns-clause-order : goal.returns-clause-order
returns-clause-order c = rw (← c.self.view_is) (keeps_order (the_view c.self.inside) c.self.invariant.order c.self.invariant.count)
