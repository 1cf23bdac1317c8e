-- What comes of an event that a search follows.
use Rattle.std.proofs.Common.{inl, inr, ◌≡◌, ◌≤◌, ◌+◌, ℕ, Bool, true, false, ◌&&◌, List, [], ◌∷◌, ◌++◌, length, refl, sym, ap, subst, ◌∙◌, arith}
use Rattle.std.specs.Prelude.{All, Contains, IsTrue}
use Rattle.std.proofs.lemmas.Bool.{and_parts}
use Rattle.std.proofs.lemmas.List.Elements.{All-head, All-nil, All-push}
use Rattle.acc_core.specs.Machine.{State, Outcome, step}
use Rattle.acc_explore.specs.Alike.{Alike}
use Rattle.acc_explore.specs.Arrivals.{found_at, found_by}
use Rattle.acc_explore.specs.declared.arrival.Arrival.{Arrival}
use Rattle.acc_explore.specs.declared.search.Course.{Course}
use Rattle.acc_explore.specs.declared.search.Course.TheVariants.{Idle, Led, Full}
use Rattle.acc_explore.specs.Explorations.{Found, HoldsAlike, IsEnd}
use Rattle.acc_explore.specs.inner.Searching.{AreNear, IsFollowed, IsLikeOne, IsNoted, LeavesEnd, Takes}
use Rattle.acc_explore.specs.Reductions.{MayGoFirst}
use Rattle.acc_explore.specs.Runs.{MayCome, open_events}
use Rattle.acc_explore.proofs.AlikeSteps.{alike_itself}
use Rattle.acc_explore.proofs.FoundMore.{stays}
use Rattle.acc_explore.proofs.SearchEvents.{IsIdleAt, may_unless_close, no_close}
use Rattle.acc_explore.proofs.SearchSteps.{goes_on_found, goes_on_like, goes_past, near_still}
use Rattle.acc_host.specs.declared.event.Event.{Event}

-- ## What was found keeps its numbers

pub kept : (most : ℕ) (start : State) (old new : List Arrival) (a : Arrival) (w : State) (n : ℕ) → n ≤ length old → IsNoted most start old new a w
    → found_at start new n ≡ found_at start old n
kept most start old new a w n low (inl same) = ap (λ (xs : List Arrival). found_at start xs n) same.0
kept most start old new a w n low (inr more) = ap (λ (xs : List Arrival). found_at start xs n) more.0 ∙ stays start a old n low

pub no_fewer : (most : ℕ) (start : State) (old new : List Arrival) (a : Arrival) (w : State) → IsNoted most start old new a w → length old ≤ length new
no_fewer most start old new a w (inl same) = omega (arith, ap length same.0)
no_fewer most start old new a w (inr more) = omega (arith, ap length more.0)

module _ (most : ℕ) (start : State) (old new : List Arrival) (next : ℕ) (w : State) (e : Event) where
  pub still_there : (course : Course) → Takes most start old new next w e course → next ≤ length old → next ≤ length new
  still_there Idle takes low = omega (arith, low, ap length takes.1)
  still_there Led takes low = omega (arith, low, no_fewer most start old new (record { from = next; by = e }) (step false w e).state takes.1)
  still_there Full takes low = omega (arith, low, ap length takes.0)

  pub still_here : (course : Course) → Takes most start old new next w e course → next ≤ length old → found_at start new next ≡ found_at start old next
  still_here Idle takes low = ap (λ (xs : List Arrival). found_at start xs next) takes.1
  still_here Led takes low = kept most start old new (record { from = next; by = e }) (step false w e).state next low takes.1
  still_here Full takes low = ap (λ (xs : List Arrival). found_at start xs next) takes.0

  -- ## It is followed

  module _ (closing : Bool) (numbers : List ℕ) (done : List Event) (here : w ≡ (found_at start old next).state) (low : next ≤ length old) (listed : Contains (open_events closing start) e)
      (f : IsFollowed closing most start old numbers next done) where
    abbrev now : State
    now = (step false (found_at start old next).state e).state

    same_now : (step false w e).state ≡ now
    same_now = ap (λ (v : State). (step false v e).state) here

    found_or_like : IsNoted most start old new (record { from = next; by = e }) (step false w e).state → IsFollowed closing most start new numbers next (done ++ e ∷ [])
    found_or_like (inl like) =
        subst (λ (xs : List Arrival). IsFollowed closing most start xs numbers next (done ++ e ∷ [])) (sym like.0)
        (goes_on_like closing most start old numbers next done f e low (subst (IsLikeOne start old) same_now like.1))
    found_or_like (inr more) =
        subst (λ (xs : List Arrival). IsFollowed closing most start xs numbers next (done ++ e ∷ [])) (sym more.0)
        (goes_on_found closing most start old numbers next done f e low more.1 listed)

    pub goes_on : (course : Course) → Takes most start old new next w e course → (course ≡ Full → ⊥) → IsFollowed closing most start new numbers next (done ++ e ∷ [])
    goes_on Idle takes room =
        let at = (found_at start old next).state in
        let same : now ≡ at = sym same_now ∙ (ap (λ (o : Outcome). o.state) takes.0 ∙ here) in
        subst (λ (xs : List Arrival). IsFollowed closing most start xs numbers next (done ++ e ∷ [])) (sym takes.1)
        (goes_on_like closing most start old numbers next done f e low (record { number = next; there = low; alike = subst (Alike at) (sym same) (alike_itself at) }))
    goes_on Led takes room = found_or_like takes.1
    goes_on Full takes room = absurd (room refl)

  -- ## Whether its state is an end

  leaves_idle : (course : Course) → Takes most start old new next w e course → LeavesEnd course e → IsIdleAt w e
  leaves_idle Idle takes leaves may = ap (λ (o : Outcome). o.reply) takes.0
  leaves_idle Led takes leaves may = absurd (no_close e leaves may)
  leaves_idle Full takes leaves may = absurd (no_close e leaves may)

  pub still_idle : (course : Course) (is_end leaves : Bool) (done : List Event) → Takes most start old new next w e course → (IsTrue leaves → LeavesEnd course e)
      → (IsTrue is_end → All (IsIdleAt w) done) → IsTrue (is_end && leaves) → All (IsIdleAt w) (done ++ e ∷ [])
  still_idle course is_end leaves done takes says all both =
      let parts = and_parts is_end leaves both in
      All-push (IsIdleAt w) done e (all parts.0) (leaves_idle course takes (says parts.1))

  ends_not : (course : Course) → Takes most start old new next w e course → (course ≡ Full → ⊥) → (LeavesEnd course e → ⊥) → IsEnd w → ⊥
  ends_not Idle takes room leaves ends = leaves tt
  ends_not Led takes room leaves ends = takes.0 (ends e (may_unless_close e leaves))
  ends_not Full takes room leaves ends = room refl

  pub still_busy : (course : Course) (is_end leaves : Bool) → Takes most start old new next w e course → (course ≡ Full → ⊥) → (LeavesEnd course e → IsTrue leaves)
      → (is_end ≡ false → IsEnd w → ⊥) → (is_end && leaves) ≡ false → IsEnd w → ⊥
  still_busy course false leaves takes room says busy isnt ends = busy refl ends
  still_busy course true true takes room says busy isnt ends = cc
  still_busy course true false takes room says busy isnt ends = ends_not course takes room (λ leaves. let wrong : false ≡ true = says leaves in cc) ends

-- ## One event alone

-- a state of which an event may go first is no end
waits_first : (closing : Bool) (w : State) (e : Event) → MayGoFirst closing w e → IsEnd w → ⊥
waits_first closing w e first ends = absurd (omega (arith, (first [] (All-nil (MayCome closing)) ends).fewer))

pub followed_alone : (closing : Bool) (most : ℕ) (start : State) (old new : List Arrival) (numbers : List ℕ) (next : ℕ) (w : State) (e : Event) (course : Course)
    → w ≡ (found_at start old next).state → next ≤ length old → Contains (open_events closing start) e → MayGoFirst closing w e
    → IsFollowed closing most start old numbers next [] → Takes most start old new next w e course → (course ≡ Full → ⊥)
    → IsFollowed closing most start new numbers (next + 1) []
followed_alone closing most start old new numbers next w e course here low listed first f takes room =
    let at = found_at start new next in
    let is : w ≡ at.state = here ∙ sym (ap (λ (g : Found). g.state) (still_here most start old new next w e course takes low)) in
    let may : MayGoFirst closing at.state e = subst (λ (v : State). MayGoFirst closing v e) is first in
    let on : IsFollowed closing most start new numbers next (e ∷ []) = goes_on most start old new next w e closing numbers [] here low listed f course takes room in
    goes_past closing most start new numbers next (e ∷ []) on (still_there most start old new next w e course takes low)
    (inl (record { event = e; first = may; leads = All-head (λ (x : Event). HoldsAlike (at.depth + 1) (found_by start new) (step false at.state x).state) e [] on.these }))
    (waits_first closing at.state e may)

pub near_alone : (closing : Bool) (most : ℕ) (start : State) (old new : List Arrival) (numbers : List ℕ) (next : ℕ) (w : State) (e : Event) (course : Course)
    → w ≡ (found_at start old next).state → next ≤ length old → Contains (open_events closing start) e
    → IsFollowed closing most start old numbers next [] → Takes most start old new next w e course → (course ≡ Full → ⊥)
    → AreNear start old new next
near_alone closing most start old new numbers next w e course here low listed f takes room =
    near_still closing most start new numbers next (e ∷ []) (goes_on most start old new next w e closing numbers [] here low listed f course takes room) old
    (ap (λ (g : Found). g.depth) (still_here most start old new next w e course takes low)) (still_there most start old new next w e course takes low)
