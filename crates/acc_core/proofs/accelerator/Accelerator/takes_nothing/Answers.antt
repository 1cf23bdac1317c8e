use Rattle.std.proofs.Common.{refl, sym, ◌∙◌}
use Rattle.acc_core.specs.inner.Ties.{state_of_parts}
use Rattle.acc_core.proofs.BatchesLeft.{none_goes}
use Rattle.acc_core.proofs.TakeBatch.{takes_no_batch}
use Rattle.acc_core.proofs.accelerator.Accelerator.takes_nothing.Goals as goal

-- while nothing is left
pub returns-then-self-eq0 : goal.returns-then-self-eq0
returns-then-self-eq0 c = λ _.
    let i = c.self.inside in
    let w = state_of_parts i.place i.work in
    rw (← c.self.view_is) (none_goes w i.work i.queues.items c.args.at c.self.invariant.0.parts c.keeps.ensures.order refl (sym c.self.invariant.2 ∙ c.if-self-eq0.true)).0

-- where the queue holds no batch
pub returns : goal.returns
returns c = λ none.
    let i = c.self.inside in
    let w = state_of_parts i.place i.work in
    rw (← c.self.view_is) (takes_no_batch w i.work i.queues.items c.args.at c.self.invariant.0.parts c.keeps.ensures.order refl (sym (rw c.as_slice.ensures.value at c.holds_none.ensures) ∙ none))
