use Rattle.std.proofs.Common.{◌∷◌, false, refl, sym, ap, ◌∙◌}
use Rattle.acc_batch.specs.Ops.{op_label}
use Rattle.acc_work.specs.contracts.work.Work.{the_view}
use Rattle.acc_batch.specs.declared.entry.WorkEntry.TheVariants as entry
use Rattle.acc_work.specs.Lanes.{lane_with_left, lane_with_out, lanes_with}
use Rattle.acc_work.specs.Works.{WorkView, HasPerformed, lane_at}
use Rattle.acc_work.proofs.JobSteps.{commits_now, is_looping, job_of_next, loop_allowed, loop_due}
use Rattle.acc_work.proofs.Lanes.{found}
use Rattle.acc_work.proofs.OutDue.{not_out}
use Rattle.acc_work.proofs.WorkSteps.{has_room, work_out, work_performed}
use Rattle.acc_work.proofs.work.Work.commit_job.Goals as goal

pub invariant_of-self : goal.invariant_of-self
invariant_of-self c =
    let w = the_view c.self.inside in
    let at = c.queue-device.result in
    let there = rw (← c.self.view_is, ← c.queue-device.ensures) at (c.is_out.ensures.there c.if-not-is_out.false) in
    let lane = found w.lanes at c.index_mut-lane.result.now there.1.1 there.0 (rw c.seat.ensures at c.index_mut-lane.ensures.value) in
    let back = c.put_back.ensures ∙ ap (λ l. lane_with_out l false) lane in
    rw (c.seat.ensures, back) (work_out w at false c.self.invariant there.1 (not_out w.work (lane_with_out (lane_at w at) false) refl))

pub commit_on-what-requires-clause-allowed : goal.commit_on-what-requires-clause-allowed
commit_on-what-requires-clause-allowed c =
    let w = the_view c.self.inside in
    let at = c.queue-device.result in
    let op = op_label c.in-Some.op in
    let there = rw (← c.self.view_is, ← c.queue-device.ensures) at (c.is_out.ensures.there c.if-not-is_out.false) in
    let lane = found w.lanes at c.index_mut-lane.result.now there.1.1 there.0 (rw c.seat.ensures at c.index_mut-lane.ensures.value) in
    let next = c.in-Some.ensures.next in
    let left = ap (λ l. l.left) (sym lane) ∙ next.1 in
    let live = rw left at (rw (← c.self.view_is) at (sym c.is_live-live.ensures ∙ c.if-not-live.false)) in
    (loop_allowed w at op next.0 c.self.invariant live, c.in-Some.ensures.ready)

pub push_op-requires : goal.push_op-requires
push_op-requires c =
    let w = the_view c.self.inside in
    let at = c.queue-device.result in
    let there = rw (← c.self.view_is, ← c.queue-device.ensures) at (c.is_out.ensures.there c.if-not-is_out.false) in
    let lane = found w.lanes at c.index_mut-lane.result.now there.1.1 there.0 (rw c.seat.ensures at c.index_mut-lane.ensures.value) in
    let next = c.in-Some.ensures.next in
    has_room w at (op_label c.in-Some.op) next.0 c.self.invariant there.1 (ap (λ l. l.left) (sym lane) ∙ next.1)

pub invariant_of-self-in-Some : goal.invariant_of-self-in-Some
invariant_of-self-in-Some c =
    let w = the_view c.self.inside in
    let at = c.queue-device.result in
    let op = op_label c.in-Some.op in
    let there = rw (← c.self.view_is, ← c.queue-device.ensures) at (c.is_out.ensures.there c.if-not-is_out.false) in
    let out = rw (← c.self.view_is, ← c.queue-device.ensures) at (c.is_out.ensures.out.0 c.if-not-is_out.false) in
    let lane = found w.lanes at c.index_mut-lane.result.now there.1.1 there.0 (rw c.seat.ensures at c.index_mut-lane.ensures.value) in
    let next = c.in-Some.ensures.next in
    let left = ap (λ l. l.left) (sym lane) ∙ next.1 in
    let new = next.2 ∙ ap (λ l. lane_with_left l next.0) lane in
    let live = rw left at (rw (← c.self.view_is) at (sym c.is_live-live.ensures ∙ c.if-not-live.false)) in
    let loop = is_looping c.args.job.job op (job_of_next c.args.job.job (lane_at w at).left next.0 op left out.loop) in
    let w' : WorkView = record w { memory = c.commit_on-what.new.memory; work = entry.Op at op ∷ w.work; lanes = lanes_with w.lanes at (lane_with_left (lane_at w at) next.0) } in
    let h : HasPerformed w w' at op next.0 = record { opening = refl; memory = c.commit_on-what.ensures.performed; work = refl; lanes = refl } in
    rw (c.push_op.ensures, c.commit_on-what.ensures.op, c.seat.ensures, new)
    (work_performed w w' at op next.0 c.self.invariant there.1 left (loop_due w at op c.self.invariant out.out loop) live h)

pub returns-in-Some-clause-committed : goal.returns-in-Some-clause-committed
returns-in-Some-clause-committed c =
    let w = the_view c.self.inside in
    let at = c.queue-device.result in
    let op = op_label c.in-Some.op in
    let there = rw (← c.self.view_is, ← c.queue-device.ensures) at (c.is_out.ensures.there c.if-not-is_out.false) in
    let out = rw (← c.self.view_is, ← c.queue-device.ensures) at (c.is_out.ensures.out.0 c.if-not-is_out.false) in
    let lane = found w.lanes at c.index_mut-lane.result.now there.1.1 there.0 (rw c.seat.ensures at c.index_mut-lane.ensures.value) in
    let next = c.in-Some.ensures.next in
    let left = ap (λ l. l.left) (sym lane) ∙ next.1 in
    let new = next.2 ∙ ap (λ l. lane_with_left l next.0) lane in
    let live = rw (← c.self.view_is) at (sym c.is_live-live.ensures ∙ c.if-not-live.false) in
    let loop = is_looping c.args.job.job op (job_of_next c.args.job.job (lane_at w at).left next.0 op left out.loop) in
    let w' : WorkView = record w { memory = c.commit_on-what.new.memory; work = entry.Op at op ∷ w.work; lanes = lanes_with w.lanes at (lane_with_left (lane_at w at) next.0) } in
    let h : HasPerformed w w' at op next.0 = record { opening = refl; memory = c.commit_on-what.ensures.performed; work = refl; lanes = refl } in (
      c.is_out.ensures.out.0 c.if-not-is_out.false,
      rw (c.push_op.ensures, c.commit_on-what.ensures.op, c.seat.ensures, new, ← c.self.view_is, ← c.queue-device.ensures) (commits_now w w' at op next.0 left live loop h),
    )
