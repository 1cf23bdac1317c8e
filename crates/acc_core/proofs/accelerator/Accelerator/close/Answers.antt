use Rattle.std.proofs.Common.{◌≡◌, ◌+◌, ◌<◌, cond, sym, ap, ◌∙◌, arith}
use Rattle.acc_place.specs.Closing.{left_open}
use Rattle.acc_place.proofs.LeftOpen.{left_few}
use Rattle.acc_base.specs.Queues.{queue_count, at_seat}
use Rattle.acc_host.specs.declared.state.Reply.TheVariants as reply
use Rattle.acc_core.specs.inner.Closing.{closing_begun, close_in_turn, closed_state, closes_one, closes_all}
use Rattle.acc_core.specs.Machine.{State, standing_of}
use Rattle.acc_core.proofs.CloseStep.{close_is}
use Rattle.acc_core.proofs.ClosedState.{all_config, closes_closing, place_there}
use Rattle.acc_core.proofs.ClosesOne.{all_more, turn_left}
use Rattle.acc_core.proofs.accelerator.Accelerator.close.Goals as goal
use Rattle.acc_core.proofs.accelerator.Accelerator.close.Goals.{then-not-close_queue, else-not-close_queue}

pub close_queue-requires-clause-there : goal.close_queue-requires-clause-there
close_queue-requires-clause-there c =
    let start = c.begin_closing.new.self in
    let n = c.loop-index.index in
    let config : c.loop-index.self.config ≡ start.config = ap (λ (x : State). x.config) c.loop-index.invariant.state ∙ all_config start n in
    let count : c.queue_count-index-end.result ≡ queue_count start.config = c.queue_count-index-end.ensures.count ∙ ap queue_count c.config.ensures in
    let low : n < queue_count start.config = omega (arith, c.loop-index-test.true, count) in
    rw (c.at_seat.ensures.at, config) (place_there start.config n low)

pub overflow_add-remaining : goal.overflow_add-remaining
overflow_add-remaining c =
    let few = left_few (standing_of c.loop-index.self) c.loop-index.index in
    omega (arith, c.loop-index.invariant.remaining, few, c.loop-index-test.true)

pub loop-index-preserved : goal.loop-index-preserved
loop-index-preserved c =
    let start = c.begin_closing.new.self in
    let old = c.loop-index.self in
    let new = c.close_queue.new.self in
    let n = c.loop-index.index in
    let inv = c.loop-index.invariant in
    let moved : new ≡ closes_one old (at_seat n) = c.close_queue.ensures.state ∙ ap (closes_one old) c.at_seat.ensures.at in
    let counted : c.if-not-close_queue.remaining ≡ cond c.close_queue.result c.loop-index.remaining (c.loop-index.remaining + 1) = elim c.if-not-close_queue.branch [
      | then-not-close_queue w ↦ w.remaining-is ∙ sym (ap (λ b. cond b c.loop-index.remaining (c.loop-index.remaining + 1)) w.if-not-close_queue.true)
      | else-not-close_queue w ↦ w.remaining-is ∙ sym (ap (λ b. cond b c.loop-index.remaining (c.loop-index.remaining + 1)) w.if-not-close_queue.false)
    ] in
    record {
      state = moved ∙ (ap (λ v. closes_one v (at_seat n)) inv.state ∙ sym (all_more start n));
      closing = rw moved (closes_closing old (at_seat n) inv.closing);
      remaining = turn_left old new n c.loop-index.remaining c.if-not-close_queue.remaining c.close_queue.result c.at_seat.result c.at_seat.ensures.at c.close_queue.ensures.state c.close_queue.ensures.closed inv.remaining counted;
    }

-- at the end all queues were closed in turn
pub returns : goal.returns
returns c =
    let old = c.args.self.now in
    let start = c.begin_closing.new.self in
    let n = c.loop-index.index in
    let inv = c.loop-index.invariant in
    let config : start.config ≡ old.config = ap (λ (x : State). x.config) c.begin_closing.ensures.state in
    let count : c.queue_count-index-end.result ≡ queue_count old.config = c.queue_count-index-end.ensures.count ∙ ap queue_count (c.config.ensures ∙ config) in
    let end : n ≡ queue_count old.config = omega (arith, count, c.loop-index.auto.index-end, c.loop-index-test.false) in
    let state : c.loop-index.self ≡ closed_state old = inv.state ∙ (ap (λ v. closes_all v n) c.begin_closing.ensures.state ∙ ap (closes_all (closing_begun old)) end) in
    let left : c.loop-index.remaining ≡ left_open (standing_of (closed_state old)) (queue_count old.config) = inv.remaining ∙ (ap (left_open (standing_of c.loop-index.self)) end ∙ ap (λ v. left_open (standing_of v) (queue_count old.config)) state) in
    let told : close_in_turn old ≡ record { reply = reply.Remaining c.loop-index.remaining; state = closed_state old } = ap (λ k. record { reply = reply.Remaining k; state = closed_state old }) (sym left) in
    close_is old ∙ (told ∙ ap {A = State} (λ v. record { reply = reply.Remaining c.loop-index.remaining; state = v }) (sym state))
