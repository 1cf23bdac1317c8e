use Rattle.std.proofs.Common.{reverse, length, refl}
use Rattle.acc_place.specs.Closing.{IsCloseOut}
use Rattle.acc_place.specs.Histories.{standing}
use Rattle.acc_place.specs.inner.Places.{IsCloseOf}
use Rattle.acc_place.proofs.KeptCloses.{at_hand_set, close_at, close_set, close_with}
use Rattle.acc_place.proofs.PlaceParts.{seen}
use Rattle.acc_place.proofs.place.Place.close_back.Goals as goal

pub invariant_of-self : goal.invariant_of-self
invariant_of-self c =
    let w = c.self.inside in
    let at_queue = c.args.at in
    let h = c.self.invariant.1 in
    let out : IsCloseOut (seen w) at_queue = rw (← c.self.view_is) at c.requires.out in
    let st = standing w.config (reverse w.history.items) (reverse w.counts.items) in
    let old = c.index_mut.result.now in
    let is = close_at w.config w.closes.items at_queue c.seat.result old h.all_queues out.there c.seat.ensures c.index_mut.ensures.value in
    let kept : IsCloseOf st at_queue old = rw is (h.each at_queue out.there) in
    rw c.seat.ensures
    (c.self.invariant.0, close_set w.config st w.closing w.closes.items (length w.history.items) _ w.labels.room at_queue _ h out.there (close_with st at_queue old c.args.batch kept c.requires.batch out.unplaced))

pub returns : goal.returns
returns c =
    let w = c.self.inside in
    rw (← c.self.view_is, c.seat.ensures, at_hand_set) refl
