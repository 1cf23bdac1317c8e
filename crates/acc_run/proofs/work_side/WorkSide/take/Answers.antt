use Rattle.std.proofs.Common.{◌≡◌, ◌-◌, ◌^◌, ◌<◌, ◌++◌, ◌∷◌, [], length, sym, ap, ◌∙◌}
use Rattle.acc_batch.proofs.Seats.{seat_found}
use Rattle.acc_queue.specs.Tied.{IsFor, Line}
use Rattle.acc_run.specs.WorkSides.{line_in, no_line}
use Rattle.acc_run.proofs.Publishing.{none_left, not_reached, published_taken}
use Rattle.acc_run.proofs.WorkSideSteps.{has_taken, seat_line}
use Rattle.acc_work.specs.Logs.{batches_done}
use Rattle.acc_work.specs.Works.{lane_at, taken_labels}
use Rattle.acc_run.proofs.work_side.WorkSide.take.Goals as goal

pub invariant_of-self-in-Some : goal.invariant_of-self-in-Some
invariant_of-self-in-Some g c =
    let i = c.self.inside in
    let at = c.args.at in
    let ends = i.takers.items in
    let h = rw (← c.self.view_is) at c.requires.queue in
    let k = c.keeps-in-Some.ensures.order in
    let held = seat_line i.config i.work ends at c.self.invariant.0 c.keeps.ensures.order h in
    let line = seat_found no_line ends at c.index_mut.result.now h.1 held (rw c.seat-seat.ensures at c.index_mut.ensures.value) in
    let e = c.in-Some.ensures in
    let few : batches_done (taken_labels i.work) i.work.work at < 2 ^ 62 - 1 = not_reached (batches_done (taken_labels i.work) i.work.work at) (sym c.reached.ensures ∙ c.if-reached.false) in
    let here : (line_in ends at).at ≡ at = (c.self.invariant.0.each at).here h.0 h.1 in
    let for_it : IsFor at c.in-Some.batch = rw (← here, ← line) e.for_it in
    let empty = none_left (length (lane_at i.work at).left) (sym c.lane_empty.ensures ∙ c.if-not-lane_empty.false) in (
      rw c.seat-seat.ensures
          (has_taken i.config i.work c.offer.new.self ends at c.in-Some.batch c.pop.new.self c.self.invariant.0 k h
          c.offer.ensures (e.same.1 ∙ ap (λ (l : Line). l.at) line) (e.some ∙ ap (λ (l : Line). l.labels ++ c.in-Some.batch ∷ []) line)),
      published_taken i.work c.offer.new.self i.progress.numbers at c.in-Some.batch c.self.invariant.1 k c.keeps-in-Some-2.ensures.order h c.offer.ensures for_it.2 empty few,
    )
