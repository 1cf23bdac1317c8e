-- Worlds that are kept at hand are still those of their states where more is found.
use Rattle.std.proofs.Common.{◌≡◌, ◌+◌, false, List, ◌∷◌, length, Option, Some, None, sym, ap, ◌∙◌, arith}
use Rattle.std.specs.Prelude.{IfSome}
use Rattle.std.proofs.lemmas.List.Elements.{All-weaker}
use Rattle.acc_core.specs.Machine.{State, step}
use Rattle.acc_explore.specs.Arrivals.{found_at}
use Rattle.acc_explore.specs.declared.arrival.Arrival.{Arrival}
use Rattle.acc_explore.specs.declared.worlds.Kept.{Kept}
use Rattle.acc_explore.specs.Explorations.{Found}
use Rattle.acc_explore.specs.inner.Searching.{AreAtHand, IsWorldOf}
use Rattle.acc_explore.proofs.FoundMore.{newest, stays}

module _ (start : State) (a : Arrival) (arrivals : List Arrival) where
  still_of : (seat : Option Kept) → IfSome seat (IsWorldOf start arrivals) → IfSome seat (IsWorldOf start (a ∷ arrivals))
  still_of None h = tt
  still_of (Some kept) h = (omega (arith, h.0), h.1 ∙ sym (ap (λ (f : Found). f.state) (stays start a arrivals kept.number h.0)))

  pub at_hand_more : (seats : List (Option Kept)) → AreAtHand start arrivals seats → AreAtHand start (a ∷ arrivals) seats
  at_hand_more seats all =
      All-weaker (λ (seat : Option Kept). IfSome seat (IsWorldOf start arrivals)) (λ (seat : Option Kept). IfSome seat (IsWorldOf start (a ∷ arrivals)))
      still_of seats all

  -- the latest is what its event leads to
  pub newest_state : (step false (found_at start arrivals a.from).state a.by).state ≡ (found_at start (a ∷ arrivals) (length arrivals + 1)).state
  newest_state = sym (ap (λ (f : Found). f.state) (newest start a arrivals))
