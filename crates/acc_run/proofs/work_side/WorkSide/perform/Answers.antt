use Rattle.acc_run.proofs.Publishing.{published_next, word_low, word_there}
use Rattle.acc_run.proofs.WorkSideSteps.{after_perform, goes_after}
use Rattle.acc_run.proofs.work_side.WorkSide.perform.Goals as goal

pub perform_and_publish-requires-clause-there : goal.perform_and_publish-requires-clause-there
perform_and_publish-requires-clause-there c =
    let i = c.self.inside in
    word_there i.work i.progress.numbers c.args.at c.self.invariant.1 c.keeps.ensures.order (rw (← c.self.view_is) at c.requires.queue)

pub perform_and_publish-requires-clause-few : goal.perform_and_publish-requires-clause-few
perform_and_publish-requires-clause-few c =
    let i = c.self.inside in
    word_low i.work i.progress.numbers c.args.at c.self.invariant.1 c.keeps.ensures.order (rw (← c.self.view_is) at c.requires.queue)

pub invariant_of-self : goal.invariant_of-self
invariant_of-self c =
    let i = c.self.inside in
    let h = rw (← c.self.view_is) at c.requires.queue in
    let did = c.perform_and_publish in (
      after_perform i.config i.work did.new.work i.takers.items c.args.at did.result c.self.invariant.0 c.keeps.ensures.order h did.ensures.performs,
      rw did.ensures.progress (published_next i.work did.new.work i.progress c.args.at did.result c.self.invariant.1 c.keeps.ensures.order did.ensures.order h did.ensures.performs),
    )

pub returns : goal.returns
returns c =
    let i = c.self.inside in
    let did = c.perform_and_publish in
    rw (← c.self.view_is)
    (goes_after (record { config = i.config; work = i.work; lines = i.takers.items; progress = i.progress }) did.new.work did.new.progress c.args.at did.result c.keeps.ensures.order (rw (← c.self.view_is) at c.requires.queue) did.ensures.performs did.ensures.progress)
