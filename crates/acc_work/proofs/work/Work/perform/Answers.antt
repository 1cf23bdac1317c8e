use Rattle.std.proofs.Common.{◌∷◌, refl, sym, ap, ◌∙◌}
use Rattle.acc_batch.specs.Ops.{op_label}
use Rattle.acc_work.specs.contracts.work.Work.{the_view}
use Rattle.acc_batch.specs.declared.entry.WorkEntry.TheVariants as entry
use Rattle.acc_work.specs.Lanes.{lane_with_left, lanes_with}
use Rattle.acc_work.specs.Works.{WorkView, HasPerformed, lane_at}
use Rattle.acc_work.proofs.KeptSteps.{is_ready}
use Rattle.acc_work.proofs.Lanes.{found}
use Rattle.acc_work.proofs.WorkSteps.{has_room, next_allowed, work_performed}
use Rattle.acc_work.proofs.work.Work.perform.Goals as goal

pub perform_on-what-requires-clause-allowed : goal.perform_on-what-requires-clause-allowed
perform_on-what-requires-clause-allowed c =
    let w = the_view c.self.inside in
    let at = c.args.at in
    let there = rw (← c.self.view_is) at (c.can_go.ensures.there c.if-not-can_go.false) in
    let lane = found w.lanes at c.index_mut.result.now there.1.1 there.0 (rw c.seat-seat.ensures at c.index_mut.ensures.value) in
    let next = c.in-Some.ensures.next in
    let left = ap (λ l. l.left) (sym lane) ∙ next.1 in
    let can = rw (← c.self.view_is) at (sym c.can_go.ensures.can ∙ c.if-not-can_go.false) in
    (next_allowed w at (op_label c.in-Some.op) next.0 c.self.invariant left can, c.in-Some.ensures.ready)

pub push_op-requires : goal.push_op-requires
push_op-requires c =
    let w = the_view c.self.inside in
    let at = c.args.at in
    let there = rw (← c.self.view_is) at (c.can_go.ensures.there c.if-not-can_go.false) in
    let lane = found w.lanes at c.index_mut.result.now there.1.1 there.0 (rw c.seat-seat.ensures at c.index_mut.ensures.value) in
    let next = c.in-Some.ensures.next in
    has_room w at (op_label c.in-Some.op) next.0 c.self.invariant there.1 (ap (λ l. l.left) (sym lane) ∙ next.1)

pub invariant_of-self-in-Some : goal.invariant_of-self-in-Some
invariant_of-self-in-Some c =
    let w = the_view c.self.inside in
    let at = c.args.at in
    let op = op_label c.in-Some.op in
    let there = rw (← c.self.view_is) at (c.can_go.ensures.there c.if-not-can_go.false) in
    let lane = found w.lanes at c.index_mut.result.now there.1.1 there.0 (rw c.seat-seat.ensures at c.index_mut.ensures.value) in
    let next = c.in-Some.ensures.next in
    let left = ap (λ l. l.left) (sym lane) ∙ next.1 in
    let new = next.2 ∙ ap (λ l. lane_with_left l next.0) lane in
    let can = rw (← c.self.view_is) at (sym c.can_go.ensures.can ∙ c.if-not-can_go.false) in
    let w' : WorkView = record w { memory = c.perform_on-what.new.memory; work = entry.Op at op ∷ w.work; lanes = lanes_with w.lanes at (lane_with_left (lane_at w at) next.0) } in
    let ready = is_ready w at op next.0 (rw left at can) in
    let h : HasPerformed w w' at op next.0 = record { opening = refl; memory = c.perform_on-what.ensures.performed; work = refl; lanes = refl } in
    rw (c.push_op.ensures, c.perform_on-what.ensures.op, c.seat-seat.ensures, new) (work_performed w w' at op next.0 c.self.invariant there.1 left ready.due ready.live h)
