use Rattle.std.proofs.Common.{◌≡◌, true, refl, sym, ◌∙◌}
use Rattle.acc_core.specs.Machine.{is_there}
use Rattle.acc_core.specs.inner.Ties.{state_of_parts}
use Rattle.acc_core.proofs.Enabled.{enabled_filled}
use Rattle.acc_core.proofs.Seats.{seated_there}
use Rattle.acc_core.proofs.accelerator.Accelerator.enabled.Goals as goal

pub returns : goal.returns
returns c =
    let i = c.self.inside in
    let w = state_of_parts i.place i.work in
    let at = c.args.at in
    let q = c.self.invariant.0.parts in
    let k = c.keeps.ensures.order in
    let there : is_there w at ≡ true = rw c.config.ensures at (sym c.has_queue.ensures ∙ c.if-not-has_queue.false) in
    let s = seated_there w i.work i.queues.items at q k there in
    rw (← c.self.view_is)
    (c.goes_on.ensures.goes ∙ sym (enabled_filled w i.work i.queues.items at s q q k refl there (sym c.lane_empty.ensures ∙ c.if-lane_empty.false)))
