-- An exploration that follows one event alone, where this event may go first, finds each end; where it is cut, it goes on to each from a leaf.
use Rattle.std.proofs.Common.{inl, inr, ◌⊎◌, ℕ, zero, suc, ◌+◌, ◌≤◌, Bool, false, List, [], ◌∷◌, length, refl, subst, arith}
use Rattle.std.specs.Prelude.{All, Contains}
use Rattle.std.proofs.lemmas.List.Elements.{All-contains, All-head, All-nil, All-tail, All-weaker}
use Rattle.acc_base.proofs.Members.{no_member}
use Rattle.acc_core.specs.Legality.{IsLegalState}
use Rattle.acc_core.specs.Machine.{State, step}
use Rattle.acc_host.specs.declared.event.Event.{Event}
use Rattle.acc_host.specs.declared.program.HostProgram.{HostProgram}
use Rattle.acc_explore.specs.Alike.{Alike}
use Rattle.acc_explore.specs.Cuts.{CutMissesNone, FollowsOrLeaves, GoesOnToEnd}
use Rattle.acc_explore.specs.Explorations.{FollowsAll, Found, HoldsAlike, IsEnd, TellsEnd}
use Rattle.acc_explore.specs.Reductions.{FollowsEnough, FollowsOne, IsReduced}
use Rattle.acc_explore.specs.Runs.{MayCome, after, report_of}
use Rattle.acc_explore.proofs.AlikeSteps.{alike_itself, alike_on, step_keeps_alike}
use Rattle.acc_explore.proofs.Explored.{AllLegal, all_legal, ends_too, leads_on, legal_after, legal_step, tells_end}

-- states that are alike are so behind the same events
pub alike_after : (events : List Event) (old new : State) → IsLegalState old → IsLegalState new → Alike old new → Alike (after old events) (after new events)
alike_after [] old new a b s = s
alike_after (e ∷ events) old new a b s =
    alike_after events (step false old e).state (step false new e).state (legal_step old e a) (legal_step new e b) (step_keeps_alike false old new e a b s).state

module _ (closing : Bool) (leaves : List Found) (found : List Found) where
  abbrev GoesOn : ℕ → State → Type 0
  GoesOn limit w = GoesOnToEnd closing leaves limit found w

  -- so many events from one of them on lead to an end to which one of them goes on, in time,
  abbrev FindsFrom : ℕ → Type 0
  FindsFrom n =
      (events : List Event) → length events ≤ n → (f : Found) (top : ℕ) → f.depth + length events ≤ top → Contains found f
      → All (MayCome closing) events → IsEnd (after f.state events) → GoesOn top (after f.state events)

  -- and so they do from what is like one of them
  abbrev Finds : ℕ → Type 0
  Finds n =
      (events : List Event) → length events ≤ n → (w : State) (limit top : ℕ) → limit + length events ≤ top → IsLegalState w
      → All (MayCome closing) events → HoldsAlike limit found w → IsEnd (after w events) → GoesOn top (after w events)

  -- what goes on to an end goes on to what is like it
  goes_on_like : (top : ℕ) (old new : State) → AllLegal found → IsLegalState old → GoesOn top old → Alike old new → GoesOn top new
  goes_on_like top old new each l g s = record {
    one = g.one;
    listed = g.listed;
    rest = g.rest;
    may = g.may;
    leaf = g.leaf;
    soon = g.soon;
    ends = g.ends;
    alike = alike_on (after g.one.state g.rest) old new (legal_after g.rest g.one.state (each g.one g.listed)) l g.alike s;
  }

  from_alike : AllLegal found → (n : ℕ) → FindsFrom n → Finds n
  from_alike each n finds events low w limit top within l may h ends =
      let f = h.one in
      let first = each f h.listed in
      let alike = alike_after events f.state w first l h.alike in
      let f_end = legal_after events f.state first in
      goes_on_like top (after f.state events) (after w events) each f_end
      (finds events low f top (omega (arith, h.soon, within)) h.listed may (ends_too (after f.state events) (after w events) f_end (legal_after events w l) alike ends)) alike

  -- it is an end itself
  at_once : (f : Found) (top : ℕ) → f.depth ≤ top → Contains found f → IsEnd f.state → GoesOn top f.state
  at_once f top low listed ends = record {
    one = f;
    listed = listed;
    rest = [];
    may = All-nil (MayCome closing);
    leaf = inl refl;
    soon = omega (arith, low);
    ends = ends;
    alike = alike_itself f.state;
  }

  -- it is a leaf
  at_leaf : (events : List Event) (f : Found) (top : ℕ) → f.depth + length events ≤ top → Contains found f → All (MayCome closing) events → IsEnd (after f.state events)
      → Contains leaves f → GoesOn top (after f.state events)
  at_leaf events f top within listed may ends is = record {
    one = f;
    listed = listed;
    rest = events;
    may = may;
    leaf = inr is;
    soon = within;
    ends = ends;
    alike = alike_itself (after f.state events);
  }

  none_left : FindsFrom 0
  none_left [] low f top within listed may ends = at_once f top (omega (arith, within)) listed ends
  none_left (e ∷ events) low f top within listed may ends = absurd (omega (arith, low))

  -- one event more, where one is followed, or all are
  one_more : AllLegal found → (n : ℕ) → Finds n → (events : List Event) → length events ≤ n + 1 → (f : Found) (top : ℕ) → f.depth + length events ≤ top → Contains found f
      → All (MayCome closing) events → IsEnd (after f.state events) → FollowsOne closing found f ⊎ FollowsAll closing found f → GoesOn top (after f.state events)
  one_more each n finds events low f top within listed may ends (inl one) =
      let s = one.first events may ends in
      let l = each f listed in
      let mid = (step false f.state one.event).state in
      let l_mid = legal_step f.state one.event l in
      let other = legal_after s.rest mid l_mid in
      let other_ends = ends_too (after mid s.rest) (after f.state events) other (legal_after events f.state l) s.alike ends in
      goes_on_like top (after mid s.rest) (after f.state events) each other
      (finds s.rest (omega (arith, s.fewer, low)) mid (f.depth + 1) top (omega (arith, s.fewer, within)) l_mid s.may one.leads other_ends) s.alike
  one_more each n finds [] low f top within listed may ends (inr all) = at_once f top (omega (arith, within)) listed ends
  one_more each n finds (e ∷ events) low f top within listed may ends (inr all) =
      finds events (omega (arith, low)) (step false f.state e).state (f.depth + 1) top (omega (arith, within)) (legal_step f.state e (each f listed))
      (All-tail (MayCome closing) e events may) (leads_on closing found f e listed all (All-head (MayCome closing) e events may)) ends

  finds_all : AllLegal found → All (FollowsOrLeaves closing leaves found) found → (n : ℕ) → Finds n
  finds_all each follows zero = from_alike each 0 none_left
  finds_all each follows (suc n) =
      from_alike each (suc n)
      (λ events low f top within listed may ends.
      elim (All-contains (FollowsOrLeaves closing leaves found) found f follows listed) [
        | inl followed ↦ one_more each n (finds_all each follows n) events (omega (arith, low)) f top within listed may ends followed
        | inr leaf ↦ at_leaf events f top within listed may ends leaf
      ])

pub cut_misses_none : CutMissesNone
cut_misses_none closing leaves start found l x events may ends =
    finds_all closing leaves found (all_legal closing start found l x.reached) x.follows (length events) events (omega arith) start 0 (length events) (omega arith) l may x.first ends

-- where there is no leaf, the end is like one of them
held : (closing : Bool) (limit : ℕ) (found : List Found) (w : State) → GoesOnToEnd closing [] limit found w → HoldsAlike limit found w
held closing limit found w g = elim g.leaf [
  | inl none ↦ record {
    one = g.one;
    listed = g.listed;
    soon = omega (arith, g.soon);
    alike = subst (λ (rest : List Event). Alike (after g.one.state rest) w) none g.alike;
  }
  | inr leaf ↦ absurd (no_member g.one leaf)
]

pub reduced_misses_none : (closing : Bool) (names : List (List ℕ)) (programs : List HostProgram) (start : State) (found : List Found)
    → IsLegalState start → IsReduced closing start found
    → (events : List Event) → All (MayCome closing) events → IsEnd (after start events)
    → TellsEnd names programs (length events) found (report_of names programs (after start events))
reduced_misses_none closing names programs start found l x events may ends =
    let follows = All-weaker (FollowsEnough closing found) (FollowsOrLeaves closing [] found) (λ f enough. inl enough) found x.follows in
    tells_end names programs (length events) found (after start events) (all_legal closing start found l x.reached) (legal_after events start l)
    (held closing (length events) found (after start events)
    (cut_misses_none closing [] start found l (record { first = x.first; reached = x.reached; follows = follows }) events may ends)) ends
