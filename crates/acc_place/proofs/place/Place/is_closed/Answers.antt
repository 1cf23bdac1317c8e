use Rattle.std.proofs.Common.{◌≡◌, Bool, true, false, refl, sym, ◌∙◌}
use Rattle.std.specs.Prelude.{nat_lt, ◌&&◌}
use Rattle.std.proofs.lemmas.Bool.{and_from, lt-ltb}
use Rattle.acc_base.specs.declared.ids.QueueAt.{QueueAt}
use Rattle.acc_base.specs.declared.ids.TheConstants.{QUEUES}
use Rattle.acc_place.specs.Histories.{is_closed}
use Rattle.acc_place.specs.Plans.{standing_in, PlaceView}
use Rattle.acc_place.proofs.LastClose.{closed_there}
use Rattle.acc_place.proofs.PlaceParts.{seen}
use Rattle.acc_place.proofs.place.Place.is_closed.Goals as goal

-- a queue that isn't there isn't closed
pub returns-then-not-has_queue : goal.returns-then-not-has_queue
returns-then-not-has_queue c = rw (← c.self.view_is) (by_closed (is_closed (standing_in p) at) refl)
  where
    p : PlaceView
    p = seen c.self.inside

    at : QueueAt
    at = c.args.at

    by_closed : (b : Bool) → is_closed (standing_in p) at ≡ b → false ≡ b
    by_closed false e = refl
    by_closed true e =
        let there = closed_there p.config p.history p.counts at c.self.invariant.0.lawful e in
        let yes : (nat_lt at.device p.config.devices && nat_lt at.queue QUEUES) ≡ true =
        and_from (nat_lt at.device p.config.devices) (nat_lt at.queue QUEUES) (lt-ltb at.device p.config.devices there.0) (lt-ltb at.queue QUEUES there.1) in
        let wrong : true ≡ false = sym yes ∙ (sym c.has_queue.ensures ∙ c.if-not-has_queue.true) in
        absurd cc
