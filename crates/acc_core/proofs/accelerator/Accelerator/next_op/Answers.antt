use Rattle.std.proofs.Common.{◌≡◌, ◌≤◌, true, length, Some, refl, sym, ap, ◌∙◌}
use Rattle.std.specs.Option.{option_map}
use Rattle.acc_core.specs.Machine.{is_there}
use Rattle.acc_core.specs.inner.Queues.{queue_in}
use Rattle.acc_core.specs.inner.Ties.{state_of_parts}
use Rattle.acc_work.specs.Lanes.{last_of}
use Rattle.acc_work.specs.Logs.{performed}
use Rattle.acc_work.specs.Works.{lane_at}
use Rattle.acc_core.proofs.NextOp.{next_of_last}
use Rattle.acc_core.proofs.Seats.{seated_there}
use Rattle.acc_core.proofs.TakeBatch.{lane_is_rest}
use Rattle.acc_core.proofs.accelerator.Accelerator.next_op.Goals as goal

pub returns-in-Some : goal.returns-in-Some
returns-in-Some c =
    let i = c.self.inside in
    let w = state_of_parts i.place i.work in
    let at = c.args.at in
    let q = c.self.invariant.0.parts in
    let k = c.keeps.ensures.order in
    let label = c.in-Some.label.now in
    let lane = lane_at i.work at in
    let there : is_there w at ≡ true = rw c.config.ensures at (sym c.has_queue.ensures ∙ c.if-not-has_queue.false) in
    let s = seated_there w i.work i.queues.items at q k there in
    let rest = lane_is_rest w i.work i.queues.items at (queue_in i.queues.items at) s (q.each at) k refl in
    let last : last_of lane.taken ≡ Some label = sym c.last_taken.ensures ∙ ap (option_map (λ l. l.now)) c.in-Some.is in
    let few : length lane.left ≤ length label.ops = rw last at (k.order at).batches.begun in
    let next = next_of_last lane.taken label (performed at w.work) lane.left last (k.order at).in_order few in
    let ops = c.as_slice-ops.ensures ∙ c.get.ensures in
    rw (← c.self.view_is, there, rest, ← next, ← ops, ← c.ops_left-left.ensures) c.op_at.ensures
