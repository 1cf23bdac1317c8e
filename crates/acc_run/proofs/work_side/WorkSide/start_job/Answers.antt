use Rattle.acc_run.proofs.Publishing.{published_gone_out}
use Rattle.acc_run.proofs.WorkSideSteps.{after_going_out}
use Rattle.acc_run.proofs.work_side.WorkSide.start_job.Goals as goal

pub invariant_of-self : goal.invariant_of-self
invariant_of-self c =
    let i = c.self.inside in
    let h = rw (← c.self.view_is) at c.requires.queue in
    let did = c.start_job-job in (
      after_going_out did.result i.config i.work did.new.self i.takers.items c.args.at c.self.invariant.0 c.keeps.ensures.order h did.ensures.started did.ensures.none,
      published_gone_out did.result i.work did.new.self i.progress.numbers c.args.at c.self.invariant.1 c.keeps.ensures.order c.keeps-2.ensures.order h did.ensures.started did.ensures.none,
    )
