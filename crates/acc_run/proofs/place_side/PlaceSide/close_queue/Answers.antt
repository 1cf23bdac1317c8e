use Rattle.std.proofs.Common.{sym, ◌∙◌}
use Rattle.acc_place.proofs.CloseOut.{close_some}
use Rattle.acc_run.proofs.PlaceSideSteps.{close_returned, closed_sent, closes_one}
use Rattle.acc_run.proofs.place_side.PlaceSide.close_queue.Goals as goal

pub invariant_of-self-in-Err : goal.invariant_of-self-in-Err
invariant_of-self-in-Err g c =
    let i = c.self.inside in
    let there = rw (← c.self.view_is) at c.requires.there in
    let given = close_some i.place c.args.at c.in-Some.batch (sym c.in-Some.is ∙ c.close_batch.ensures.batch) in
    rw (c.close_back.ensures, c.close_batch.ensures.place, c.in-Err.ensures.kept) (close_returned i.place i.senders.items c.args.at c.self.invariant there given.0)

pub invariant_of-self-in-Ok : goal.invariant_of-self-in-Ok
invariant_of-self-in-Ok g c =
    let i = c.self.inside in
    let there = rw (← c.self.view_is) at c.requires.there in
    let given = close_some i.place c.args.at c.in-Some.batch (sym c.in-Some.is ∙ c.close_batch.ensures.batch) in
    let out = rw c.close_batch.ensures.place at c.in-Some.ensures.out in
    rw (c.close_done.ensures, c.close_batch.ensures.place, c.in-Ok.ensures.sent) (closed_sent i.place i.senders.items c.args.at c.in-Some.batch c.self.invariant there given.0 out given.1)

pub returns-in-Ok : goal.returns-in-Ok
returns-in-Ok g c =
    let i = c.self.inside in
    let given = close_some i.place c.args.at c.in-Some.batch (sym c.in-Some.is ∙ c.close_batch.ensures.batch) in
    rw (← c.self.view_is, c.close_done.ensures, c.close_batch.ensures.place, c.in-Ok.ensures.sent)
    (closes_one (record { place = i.place; lines = i.senders.items }) c.args.at c.in-Some.batch given.1)
