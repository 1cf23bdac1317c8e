use Rattle.std.proofs.Common.{true, sym, ap, subst, ◌∙◌}
use Rattle.std.specs.Prelude.{is_some}
use Rattle.acc_work.specs.contracts.work.Work.{the_view}
use Rattle.acc_work.specs.inner.Jobs.{MayStart}
use Rattle.acc_work.specs.Lanes.{LaneView, lane_with_out, last_of, next_loop}
use Rattle.acc_work.proofs.JobSteps.{host_allowed, lane_out, may_start, some_batch}
use Rattle.acc_work.proofs.Lanes.{found}
use Rattle.acc_work.proofs.WorkSteps.{work_out}
use Rattle.acc_work.proofs.work.Work.start_job.Goals as goal

pub start_on-requires-clause-may : goal.start_on-requires-clause-may
start_on-requires-clause-may c =
    let w = the_view c.self.inside in
    let at = c.args.at in
    let can = rw (← c.self.view_is) at (sym c.can_go-can.ensures.can ∙ c.if-not-can.false) in
    let there = rw (← c.self.view_is) at (c.can_go-can.ensures.there c.if-not-can.false) in
    let lane = found w.lanes at c.index_mut-lane.result.now there.1.1 there.0 (rw c.seat.ensures at c.index_mut-lane.ensures.value) in
    let some = sym (ap (λ (l : LaneView). is_some (next_loop l.left)) lane) ∙ (sym c.has_loop_next.ensures ∙ c.if-not-has_loop_next.false) in
    subst (λ (l : LaneView). MayStart w.memory at.device l.left) (sym lane) (may_start w at c.self.invariant can some)

pub invariant_of-self-2 : goal.invariant_of-self-2
invariant_of-self-2 c =
    let w = the_view c.self.inside in
    let at = c.args.at in
    let can = rw (← c.self.view_is) at (sym c.can_go-can.ensures.can ∙ c.if-not-can.false) in
    let there = rw (← c.self.view_is) at (c.can_go-can.ensures.there c.if-not-can.false) in
    let old = c.index_mut-lane.result.now in
    let lane = found w.lanes at old there.1.1 there.0 (rw c.seat.ensures at c.index_mut-lane.ensures.value) in
    let out = lane_out c.self.inside.memory old c.start_on.new.lane at c.start_on.result c.start_on.ensures.started c.start_on.ensures.none
    (λ none. some_batch w at can (ap (λ (l : LaneView). last_of l.taken) (sym lane) ∙ none)) in
    let new = out ∙ ap (λ l. lane_with_out l true) lane in
    rw (c.seat.ensures, new) (work_out w at true c.self.invariant there.1 (λ yes. host_allowed w at can))
