use Rattle.std.proofs.Common.{refl, sym, ap, ◌∙◌}
use Rattle.std.specs.Prelude.{nat_lt}
use Rattle.acc_core.specs.inner.Ties.{state_of_parts}
use Rattle.acc_core.proofs.BatchesLeft.{left_counted}
use Rattle.acc_core.proofs.Enabled.{some_enabled}
use Rattle.acc_core.proofs.accelerator.Accelerator.any_left.Goals as goal

pub returns-clause-left : goal.returns-clause-left
returns-clause-left c =
    let i = c.self.inside in
    let w = state_of_parts i.place i.work in
    rw (← c.self.view_is) (ap (λ n. nat_lt 0 n) c.self.invariant.2 ∙ sym (left_counted w i.work i.queues.items c.self.invariant.0.legal c.self.invariant.0.parts c.keeps.ensures.order refl))

pub returns-clause-enabled : goal.returns-clause-enabled
returns-clause-enabled c = λ some.
    let i = c.self.inside in
    let w = state_of_parts i.place i.work in
    let counted = left_counted w i.work i.queues.items c.self.invariant.0.legal c.self.invariant.0.parts c.keeps.ensures.order refl in
    rw (← c.self.view_is) (some_enabled w c.self.invariant.0.legal (counted ∙ (sym (ap (λ n. nat_lt 0 n) c.self.invariant.2) ∙ some)))
