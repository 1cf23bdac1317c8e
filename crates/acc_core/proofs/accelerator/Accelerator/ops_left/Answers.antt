use Rattle.std.proofs.Common.{◌≡◌, true, length, refl, sym, ap, ◌∙◌}
use Rattle.acc_core.specs.Machine.{is_there}
use Rattle.acc_core.specs.inner.Queues.{queue_in}
use Rattle.acc_core.specs.inner.Ties.{state_of_parts}
use Rattle.acc_core.proofs.Seats.{seated_there}
use Rattle.acc_core.proofs.TakeBatch.{lane_is_rest}
use Rattle.acc_core.proofs.accelerator.Accelerator.ops_left.Goals as goal

pub returns : goal.returns
returns c =
    let i = c.self.inside in
    let w = state_of_parts i.place i.work in
    let at = c.args.at in
    let q = c.self.invariant.0.parts in
    let k = c.keeps.ensures.order in
    let there : is_there w at ≡ true = rw c.config.ensures at (sym c.has_queue.ensures ∙ c.if-not-has_queue.false) in
    let s = seated_there w i.work i.queues.items at q k there in
    rw (← c.self.view_is, there) (c.ops_left.ensures ∙ ap length (sym (lane_is_rest w i.work i.queues.items at (queue_in i.queues.items at) s (q.each at) k refl)))
