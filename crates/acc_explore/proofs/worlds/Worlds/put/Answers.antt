use Rattle.std.proofs.Common.{Option, Some}
use Rattle.std.specs.Prelude.{IfSome}
use Rattle.std.proofs.lemmas.List.Elements.{All-push}
use Rattle.acc_explore.specs.declared.worlds.Kept.{Kept}
use Rattle.acc_explore.specs.inner.Searching.{IsWorldOf}
use Rattle.acc_explore.proofs.worlds.Worlds.put.Goals as goal

pub returns-in_ok-push-clause-kept : goal.returns-in_ok-push-clause-kept
returns-in_ok-push-clause-kept c = λ start arrivals low is all.
    rw c.in_ok-push.ensures.items
    (All-push (λ (seat : Option Kept). IfSome seat (IsWorldOf start arrivals)) c.args.self.now.seats.items (Some (record { number = c.args.number; world = c.args.world })) all (low, is))
