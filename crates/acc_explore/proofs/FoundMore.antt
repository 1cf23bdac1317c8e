-- What is found stays so where more is found.
use Rattle.std.proofs.Common.{inl, inr, ◌≡◌, ◌≤◌, ◌+◌, ℕ, Bool, false, List, [], ◌∷◌, ◌++◌, length, sym, ap, ◌∙◌, arith}
use Rattle.std.specs.Prelude.{Contains, slice_index_or}
use Rattle.std.proofs.lemmas.List.Elements.{All-weaker, Contains-append_left, Contains-get_or, Contains-push}
use Rattle.acc_core.specs.Machine.{State, step}
use Rattle.acc_base.proofs.Members.{member_first}
use Rattle.acc_explore.specs.Arrivals.{at_once, found_at, found_behind, found_by}
use Rattle.acc_explore.specs.declared.arrival.Arrival.{Arrival}
use Rattle.acc_explore.specs.Explorations.{FollowsAll, Found, HoldsAlike}
use Rattle.acc_explore.specs.Reductions.{FollowsEnough}
use Rattle.acc_explore.specs.inner.Searching.{IsLikeOne}
use Rattle.acc_explore.specs.Runs.{open_events}
use Rattle.acc_explore.proofs.AlikeSteps.{alike_itself}
use Rattle.acc_explore.proofs.ArrivalPaths.{at_end, beside, length_found}
use Rattle.acc_host.specs.declared.event.Event.{Event}

module _ (start : State) (a : Arrival) (arrivals : List Arrival) where
  -- those that were found keep their numbers
  pub stays : (n : ℕ) → n ≤ length arrivals → found_at start (a ∷ arrivals) n ≡ found_at start arrivals n
  stays n low =
      beside (found_by start arrivals) (found_behind (found_at start arrivals a.from) a) (at_once start) n
      (λ e. omega (arith, low, e, length_found start arrivals))

  -- the latest has the next one
  pub newest : found_at start (a ∷ arrivals) (length arrivals + 1) ≡ found_behind (found_at start arrivals a.from) a
  newest =
      let found = found_by start arrivals in
      let f = found_behind (found_at start arrivals a.from) a in
      ap (λ k. slice_index_or (found ++ f ∷ []) k (at_once start)) (sym (length_found start arrivals)) ∙ at_end found f (at_once start)

  -- what is like one of them is so
  pub holds_more : (limit : ℕ) (w : State) → HoldsAlike limit (found_by start arrivals) w → HoldsAlike limit (found_by start (a ∷ arrivals)) w
  holds_more limit w h = record {
    one = h.one;
    listed = Contains-append_left (found_by start arrivals) (found_behind (found_at start arrivals a.from) a ∷ []) h.one h.listed;
    soon = h.soon;
    alike = h.alike;
  }

  follows_more : (closing : Bool) (f : Found) → FollowsAll closing (found_by start arrivals) f → FollowsAll closing (found_by start (a ∷ arrivals)) f
  follows_more closing f all =
      All-weaker (λ (e : Event). HoldsAlike (f.depth + 1) (found_by start arrivals) (step false f.state e).state)
      (λ (e : Event). HoldsAlike (f.depth + 1) (found_by start (a ∷ arrivals)) (step false f.state e).state)
      (λ e h. holds_more (f.depth + 1) (step false f.state e).state h) (open_events closing f.state) all

  pub enough_more : (closing : Bool) (f : Found) → FollowsEnough closing (found_by start arrivals) f → FollowsEnough closing (found_by start (a ∷ arrivals)) f
  enough_more closing f (inl one) = inl (record {
    event = one.event;
    first = one.first;
    leads = holds_more (f.depth + 1) (step false f.state one.event).state one.leads;
  })
  enough_more closing f (inr all) = inr (follows_more closing f all)

  -- the latest is one of them
  pub holds_newest : HoldsAlike ((found_at start arrivals a.from).depth + 1) (found_by start (a ∷ arrivals)) (step false (found_at start arrivals a.from).state a.by).state
  holds_newest =
      let f = found_at start arrivals a.from in
      record {
        one = found_behind f a;
        listed = Contains-push (found_by start arrivals) (found_behind f a);
        soon = omega arith;
        alike = alike_itself (step false f.state a.by).state;
      }

-- The one that is like a state is found within so many events.
pub holds_one : (start : State) (arrivals : List Arrival) (limit : ℕ) (w : State) (l : IsLikeOne start arrivals w) → (found_at start arrivals l.number).depth ≤ limit
    → HoldsAlike limit (found_by start arrivals) w
holds_one start arrivals limit w l soon = record {
  one = found_at start arrivals l.number;
  listed = Contains-get_or (found_by start arrivals) l.number (at_once start) (omega (arith, l.there, length_found start arrivals));
  soon = soon;
  alike = l.alike;
}

-- the start is one of them
first_listed : (start : State) (arrivals : List Arrival) → Contains (found_by start arrivals) (at_once start)
first_listed start [] = member_first (at_once start) []
first_listed start (a ∷ arrivals) =
    Contains-append_left (found_by start arrivals) (found_behind (found_at start arrivals a.from) a ∷ []) (at_once start) (first_listed start arrivals)

pub holds_start : (start : State) (arrivals : List Arrival) → HoldsAlike 0 (found_by start arrivals) start
holds_start start arrivals = record { one = at_once start; listed = first_listed start arrivals; soon = omega arith; alike = alike_itself start }
