use Rattle.std.proofs.Common.{◌≡◌, ◌+◌, Some, ◌∷◌, reverse, length, refl, sym, ap, ◌∙◌, arith}
use Rattle.std.specs.Prelude.{is_some, slice_set, true}
use Rattle.acc_batch.specs.declared.label.Label.{Label}
use Rattle.acc_batch.specs.Awaits.{close_label}
use Rattle.acc_batch.specs.Labels.{on_queue}
use Rattle.acc_place.specs.declared.closes.Close.{Close}
use Rattle.acc_place.specs.declared.directive.PlaceEntry.TheVariants.{Closed}
use Rattle.acc_place.specs.Closing.{IsCloseOut, ClosesQueue}
use Rattle.acc_place.specs.Histories.{CanClose}
use Rattle.acc_place.specs.inner.Places.{no_close, IsCloseOf}
use Rattle.acc_place.specs.Plans.{standing_in}
use Rattle.acc_place.proofs.KeptCloses.{close_at, close_gone, closed_by, entry_room, label_closes}
use Rattle.acc_place.proofs.StandingIn.{reverse-push}
use Rattle.acc_place.proofs.PlaceParts.{seen}
use Rattle.acc_place.proofs.SliceSet.{shown_same}
use Rattle.acc_place.proofs.place.Place.close_done.Goals as goal

pub push_reserved-requires : goal.push_reserved-requires
push_reserved-requires c =
    let w = c.self.inside in
    let out : IsCloseOut (seen w) c.args.at = rw (← c.self.view_is) at c.requires.out in
    let some = entry_room w.config (standing_in (seen w)) w.closing w.closes.items (length w.history.items) _ w.labels.room c.args.at c.self.invariant.1 out.there out.unplaced in
    omega (arith, some, w.history.ok.0)

pub invariant_of-self-in-Some : goal.invariant_of-self-in-Some
invariant_of-self-in-Some c =
    let w = c.self.inside in
    let at_queue = c.args.at in
    let h = c.self.invariant.1 in
    let st = standing_in (seen w) in
    let out : IsCloseOut (seen w) at_queue = rw (← c.self.view_is) at c.requires.out in
    let begun : st.closing ≡ true = rw (← c.self.view_is) at c.requires.begun in
    let can : CanClose w.config st at_queue = record { there = out.there; begun = begun; unplaced = out.unplaced } in
    let old = c.index_mut.result.now in
    let new : Close = record { batch = old.batch; label = c.take.new.self } in
    let found = close_at w.config w.closes.items at_queue c.seat.result old h.all_queues out.there c.seat.ensures c.index_mut.ensures.value in
    let kept : IsCloseOf st at_queue old = rw found (h.each at_queue out.there) in
    let gone : new ≡ no_close = close_gone (seen w) w.closes.items at_queue old new refl h.all_queues out found refl c.take.ensures.after in
    let label : Label = record c.in-Some.label { number = c.next_number-number.result } in
    let number : c.next_number-number.result ≡ length (on_queue at_queue st.labels) + 1 = rw (← c.self.view_is) at c.next_number-number.ensures in
    let some : old.label ≡ Some c.in-Some.label = sym c.take.ensures.value ∙ c.in-Some.is in
    let own : ClosesQueue at_queue c.in-Some.label = rw some at kept.label in
    let is : label ≡ close_label at_queue st.labels = label_closes at_queue st.labels c.in-Some.label c.next_number-number.result own number in
    rw (c.push_reserved.ensures.capacity, c.push.ensures.room)
    (closed_by w.config w.history.items c.push_reserved.new.self.items (reverse w.counts.items) w.devices.items w.regions.items w.labels.queues c.push.new.self.queues w.closing w.closes.items _ _ w.labels.room at_queue label new
    c.self.invariant can is gone c.push_reserved.ensures.items c.push.ensures.queues (ap (λ n. slice_set w.closes.items n new) c.seat.ensures))

pub returns-in-Some : goal.returns-in-Some
returns-in-Some c =
    let w = c.self.inside in
    let e : reverse c.push_reserved.new.self.items ≡ Closed c.args.at ∷ reverse w.history.items = ap reverse c.push_reserved.ensures.items ∙ reverse-push w.history.items (Closed c.args.at) in
    let hand = shown_same (λ (x : Close). is_some x.batch) w.closes.items c.seat.result c.index_mut.result.now (record { batch = c.index_mut.result.now.batch; label = c.take.new.self }) c.index_mut.ensures.value refl in
    rw (← c.self.view_is, c.push_reserved.ensures.capacity, c.push.ensures.room, hand, e) refl
