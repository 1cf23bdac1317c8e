use Rattle.std.proofs.Common.{refl}
use Rattle.acc_place.specs.Closing.{place_after_begin}
use Rattle.acc_core.specs.inner.Ties.{state_of_parts}
use Rattle.acc_core.proofs.CloseQueue.{has_begun, has_same_places, keeps_begun}
use Rattle.acc_core.proofs.accelerator.Accelerator.begin_closing.Goals as goal

pub invariant_of-self : goal.invariant_of-self
invariant_of-self c =
    let i = c.self.inside in
    let w = state_of_parts i.place i.work in
    rw c.close_begin.ensures.place (keeps_begun w i.work i.queues.items c.self.invariant.0, has_begun i.place c.self.invariant.1, c.self.invariant.2, has_same_places i.place (place_after_begin i.place) i.queues.items refl refl c.self.invariant.3)
