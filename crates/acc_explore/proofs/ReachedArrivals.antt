-- What is found one behind another is reached.
use Rattle.std.proofs.Common.{ℕ, zero, suc, Bool, false, List, [], ◌∷◌, ◌++◌, refl, ap, ◌∙◌, arith}
use Rattle.std.specs.Prelude.{All, slice_index_or}
use Rattle.std.proofs.lemmas.List.{length-append}
use Rattle.std.proofs.lemmas.List.Elements.{All-append, All-cons, All-head, All-nil, All-tail}
use Rattle.acc_core.specs.Machine.{State, step}
use Rattle.acc_explore.specs.Arrivals.{ArrivalsAreReached, at_once, found_behind, found_by}
use Rattle.acc_explore.specs.declared.arrival.Arrival.{Arrival}
use Rattle.acc_explore.specs.Explorations.{Found, IsLedTo}
use Rattle.acc_explore.specs.Runs.{MayCome}
use Rattle.acc_explore.proofs.AfterMore.{after_more}

-- what is so of each, and of another, is so of the one with a number
at_number : (P : Found → Type 0) (found : List Found) (n : ℕ) (other : Found) → All P found → P other → P (slice_index_or found n other)
at_number P [] n other all so = so
at_number P (f ∷ found) zero other all so = All-head P f found all
at_number P (f ∷ found) (suc n) other all so = at_number P found n other (All-tail P f found all) so

module _ (closing : Bool) (start : State) where
  at_first : IsLedTo closing start (at_once start)
  at_first = record { events = []; may = All-nil (MayCome closing); count = refl; there = refl }

  behind : (f : Found) (a : Arrival) → IsLedTo closing start f → MayCome closing a.by → IsLedTo closing start (found_behind f a)
  behind f a r may = record {
    events = r.events ++ a.by ∷ [];
    may = All-append (MayCome closing) r.events (a.by ∷ []) r.may (All-cons (MayCome closing) a.by [] may (All-nil (MayCome closing)));
    count = omega (arith, r.count, length-append r.events (a.by ∷ []));
    there = after_more start r.events a.by ∙ ap (λ (w : State). (step false w a.by).state) r.there;
  }

pub all_reached : ArrivalsAreReached
all_reached closing start [] may = All-cons (IsLedTo closing start) (at_once start) [] (at_first closing start) (All-nil (IsLedTo closing start))
all_reached closing start (a ∷ before) may =
    let P = λ (b : Arrival). MayCome closing b.by in
    let R = IsLedTo closing start in
    let found = found_by start before in
    let ih = all_reached closing start before (All-tail P a before may) in
    let one = slice_index_or found a.from (at_once start) in
    All-append R found (found_behind one a ∷ []) ih
    (All-cons R (found_behind one a) [] (behind closing start one a (at_number R found a.from (at_once start) ih (at_first closing start)) (All-head P a before may)) (All-nil R))
