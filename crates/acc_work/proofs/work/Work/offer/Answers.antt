use Rattle.std.proofs.Common.{◌≡◌, length, sym, ap, ◌∙◌, arith}
use Rattle.std.proofs.lemmas.List.{length-map}
use Rattle.acc_batch.specs.Ops.{op_label}
use Rattle.acc_work.specs.contracts.work.Work.{the_view}
use Rattle.acc_work.specs.Lanes.{lane_with_batch}
use Rattle.acc_work.specs.Works.{lane_at}
use Rattle.acc_work.proofs.Lanes.{found, seat_low}
use Rattle.acc_work.proofs.WorkSteps.{work_offered}
use Rattle.acc_work.proofs.work.Work.offer.Goals as goal

pub invariant_of-self : goal.invariant_of-self
invariant_of-self c =
    let w = the_view c.self.inside in
    let at = c.args.at in
    let there = rw (← c.self.view_is) at c.requires.queue in
    let low = seat_low at _ _ there.0 there.1 c.self.invariant.count in
    let lane = found w.lanes at c.index_mut.result.now there.1 low (rw c.seat.ensures at c.index_mut.ensures.value) in
    let empty = rw (← c.self.view_is) at c.requires.empty in
    let parts = c.into_parts-label.ensures in
    let new = c.offer.ensures ∙ (ap (λ l. lane_with_batch l c.into_parts-label.result.0) lane ∙ ap (lane_with_batch (lane_at w at)) parts.label) in
    let count : c.len.result ≡ length c.args.batch.ops = c.len.ensures ∙ (sym (length-map c.into_parts-label.result.1 op_label) ∙ ap length parts.ops) in
    rw (c.seat.ensures, new, c.claim.ensures.work)
    (work_offered w at c.args.batch c.claim.new.self.free c.claim.new.self.unclaimed c.self.invariant there c.requires.place c.requires.filled c.requires.host empty (omega (arith, c.claim.ensures.room, count)))
