use Rattle.std.proofs.Common.{◌≡◌, ◌+◌, cond, sym, ap, ◌∙◌, arith}
use Rattle.acc_base.specs.Queues.{at_seat}
use Rattle.acc_place.specs.Plans.{standing_in}
use Rattle.acc_place.proofs.LeftOpen.{left_few}
use Rattle.acc_run.specs.PlaceSides.{ClosesOne}
use Rattle.acc_run.proofs.PlaceSideSteps.{closed_more, closing_kept, left_more}
use Rattle.acc_run.proofs.place_side.PlaceSide.close.Goals as goal
use Rattle.acc_run.proofs.place_side.PlaceSide.close.Goals.{then-not-close_queue, else-not-close_queue}

pub overflow_add-remaining : goal.overflow_add-remaining
overflow_add-remaining g c =
    let few = left_few (standing_in c.loop-index.self.place) c.loop-index.index in
    omega (arith, c.loop-index.invariant.remaining, few, c.loop-index-test.true)

pub loop-index-preserved : goal.loop-index-preserved
loop-index-preserved g c =
    let old = c.loop-index.self in
    let new = c.close_queue.new.self in
    let n = c.loop-index.index in
    let inv = c.loop-index.invariant in
    let one : ClosesOne old new (at_seat n) c.close_queue.result = rw c.at_seat.ensures.at at c.close_queue.ensures in
    let counted : c.if-not-close_queue.remaining ≡ cond c.close_queue.result c.loop-index.remaining (c.loop-index.remaining + 1) = elim c.if-not-close_queue.branch [
      | then-not-close_queue w ↦ w.remaining-is ∙ sym (ap (λ b. cond b c.loop-index.remaining (c.loop-index.remaining + 1)) w.if-not-close_queue.true)
      | else-not-close_queue w ↦ w.remaining-is ∙ sym (ap (λ b. cond b c.loop-index.remaining (c.loop-index.remaining + 1)) w.if-not-close_queue.false)
    ] in
    record {
      from = closed_more c.begin_closing.new.self old new n c.close_queue.result inv.from one;
      closing = closing_kept old new (at_seat n) c.close_queue.result one inv.closing;
      remaining = left_more old new n c.loop-index.remaining c.if-not-close_queue.remaining c.close_queue.result one inv.remaining counted;
    }
