use Rattle.std.proofs.Common.{refl, ◌∙◌}
use Rattle.acc_core.specs.inner.Ties.{state_of_parts}
use Rattle.acc_core.proofs.BatchesDone.{all_done_taken}
use Rattle.acc_core.proofs.accelerator.Accelerator.reached.Goals as goal

pub returns : goal.returns
returns c =
    let i = c.self.inside in
    rw (← c.self.view_is)
    (c.all_reached.ensures ∙ all_done_taken (state_of_parts i.place i.work) i.work i.queues.items c.args.device 0 c.args.counts.now c.self.invariant.0.parts c.keeps.ensures.order refl)
