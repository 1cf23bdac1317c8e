use Rattle.std.proofs.Common.{◌≡◌, ◌+◌, true, false, length, Some, refl, sym, ap, ◌∙◌}
use Rattle.std.specs.Prelude.{is_some, slice_set}
use Rattle.std.proofs.lemmas.List.{length-set}
use Rattle.acc_base.specs.Queues.{seat}
use Rattle.acc_batch.specs.Awaits.{close_label}
use Rattle.acc_batch.specs.Labels.{on_queue}
use Rattle.acc_place.specs.declared.closes.Close.{Close}
use Rattle.acc_place.specs.Closing.{is_at_hand, ClosesQueue}
use Rattle.acc_place.specs.Histories.{IsQueue}
use Rattle.acc_place.specs.inner.Places.{close_in, IsCloseOf}
use Rattle.acc_place.specs.Plans.{standing_in}
use Rattle.acc_place.proofs.KeptCloses.{at_hand_is, at_hand_set, close_at, close_set, close_without, label_closes, set_own}
use Rattle.acc_place.proofs.QueuesAfter.{is_queue}
use Rattle.acc_place.proofs.PlaceParts.{seen}
use Rattle.acc_place.proofs.place.Place.close_batch.Goals as goal

pub invariant_of-self-2 : goal.invariant_of-self-2
invariant_of-self-2 c =
    let w = c.self.inside in
    let at_queue = c.args.at in
    let h = c.self.invariant.1 in
    let st = standing_in (seen w) in
    let there : IsQueue w.config at_queue = is_queue w.config at_queue (sym c.has_queue.ensures ∙ c.if-not-has_queue.false) in
    let old = c.index_mut.result.now in
    let new : Close = record { batch = c.take.new.self; label = old.label } in
    let found = close_at w.config w.closes.items at_queue c.seat.result old h.all_queues there c.seat.ensures c.index_mut.ensures.value in
    let kept : IsCloseOf st at_queue old = rw found (h.each at_queue there) in
    let gone = ap (λ b. record { batch = b; label = old.label }) c.take.ensures.after in
    rw c.seat.ensures
    (c.self.invariant.0, close_set w.config st w.closing w.closes.items (length w.history.items) _ w.labels.room at_queue new h there (close_without st at_queue old new kept gone))

pub returns-clause-batch : goal.returns-clause-batch
returns-clause-batch c =
    let w = c.self.inside in
    let at_queue = c.args.at in
    let h = c.self.invariant.1 in
    let st = standing_in (seen w) in
    let there : IsQueue w.config at_queue = is_queue w.config at_queue (sym c.has_queue.ensures ∙ c.if-not-has_queue.false) in
    let old = c.index_mut.result.now in
    let found = close_at w.config w.closes.items at_queue c.seat.result old h.all_queues there c.seat.ensures c.index_mut.ensures.value in
    let kept : IsCloseOf st at_queue old = rw found (h.each at_queue there) in
    let some : old.batch ≡ Some c.in_ok-batch.batch = sym c.take.ensures.value ∙ c.in_ok-batch.was in
    let own : ClosesQueue at_queue c.in_ok-batch.batch = rw some at kept.batch in
    let number : c.next_number-number.result ≡ length (on_queue at_queue st.labels) + 1 = rw (← c.self.view_is) at c.next_number-number.ensures in
    let is : c.renumber.new.self ≡ close_label at_queue st.labels = c.renumber.ensures ∙ label_closes at_queue st.labels c.in_ok-batch.batch c.next_number-number.result own number in
    let hand : is_at_hand (seen w) at_queue ≡ true = at_hand_is w.config w.closes.items at_queue h.all_queues there ∙ ap (λ (x : Close). is_some x.batch) (sym found) ∙ ap is_some some in
    rw (← c.self.view_is, hand) (ap Some is)

pub returns-clause-place : goal.returns-clause-place
returns-clause-place c =
    let w = c.self.inside in
    let at_queue = c.args.at in
    let h = c.self.invariant.1 in
    let there : IsQueue w.config at_queue = is_queue w.config at_queue (sym c.has_queue.ensures ∙ c.if-not-has_queue.false) in
    let old = c.index_mut.result.now in
    let found = close_at w.config w.closes.items at_queue c.seat.result old h.all_queues there c.seat.ensures c.index_mut.ensures.value in
    let some : old.batch ≡ Some c.in_ok-batch.batch = sym c.take.ensures.value ∙ c.in_ok-batch.was in
    let hand : is_at_hand (seen w) at_queue ≡ true = at_hand_is w.config w.closes.items at_queue h.all_queues there ∙ ap (λ (x : Close). is_some x.batch) (sym found) ∙ ap is_some some in
    rw (← c.self.view_is, hand, at_hand_set, c.take.ensures.after, c.seat.ensures) refl

pub returns-clause-out : goal.returns-clause-out
returns-clause-out c =
    let w = c.self.inside in
    let at_queue = c.args.at in
    let h = c.self.invariant.1 in
    let there : IsQueue w.config at_queue = is_queue w.config at_queue (sym c.has_queue.ensures ∙ c.if-not-has_queue.false) in
    let old = c.index_mut.result.now in
    let new : Close = record { batch = c.take.new.self; label = old.label } in
    let found = close_at w.config w.closes.items at_queue c.seat.result old h.all_queues there c.seat.ensures c.index_mut.ensures.value in
    let kept : IsCloseOf (standing_in (seen w)) at_queue old = rw found (h.each at_queue there) in
    let some : is_some old.batch ≡ true = ap is_some (sym c.take.ensures.value ∙ c.in_ok-batch.was) in
    let closes = slice_set w.closes.items (seat at_queue) new in
    let own = set_own w.config w.closes.items at_queue new h.all_queues there in
    let gone : is_some (close_in closes at_queue).batch ≡ false = ap (λ (x : Close). is_some x.batch) own ∙ ap is_some c.take.ensures.after in
    let all = length-set w.closes.items (seat at_queue) new ∙ h.all_queues in
    rw c.seat.ensures (record { there = there; given = at_hand_is w.config closes at_queue all there ∙ gone; unplaced = kept.unplaced some })
