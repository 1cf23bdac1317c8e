use Rattle.acc_run.proofs.PlaceSideSteps.{begun}
use Rattle.acc_run.proofs.place_side.PlaceSide.begin_closing.Goals as goal

pub invariant_of-self : goal.invariant_of-self
invariant_of-self c = rw c.close_begin.ensures.place (begun c.self.inside.place c.self.inside.senders.items c.self.invariant)
