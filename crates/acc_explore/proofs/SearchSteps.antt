-- How a search goes on.
use Rattle.std.proofs.Common.{inl, inr, ◌≡◌, ◌≤◌, ◌<◌, ◌+◌, ℕ, zero, suc, Bool, false, List, [], ◌∷◌, ◌++◌, length, drop, sym, ap, subst, ◌∙◌, arith}
use Rattle.std.specs.Prelude.{All, Contains, IsTrue, slice_index_or}
use Rattle.std.proofs.lemmas.Bool.{cases_eq, cases_lt}
use Rattle.std.proofs.lemmas.List.Elements.{All-cons, All-from_get_or, All-head, All-nil, All-push, All-tail, All-weaker, Contains-append_left, Contains-get_or, Contains-push}
use Rattle.acc_core.specs.Machine.{State, step}
use Rattle.acc_explore.specs.Arrivals.{at_once, found_at, found_by}
use Rattle.acc_explore.specs.Cuts.{FollowsOrLeaves, IsCut}
use Rattle.acc_explore.specs.declared.arrival.Arrival.{Arrival}
use Rattle.acc_explore.specs.Explorations.{Found, HoldsAlike, IsEnd}
use Rattle.acc_explore.specs.Reductions.{FollowsEnough}
use Rattle.acc_explore.specs.inner.Searching.{AreNear, AreRising, IsFollowed, IsLikeOne}
use Rattle.acc_explore.specs.Runs.{MayCome, open_events}
use Rattle.acc_explore.specs.Searches.{ComeByDepth, IsSearch, leaves_of}
use Rattle.acc_explore.proofs.FoundMore.{enough_more, holds_more, holds_newest, holds_one, holds_start, newest, stays}
use Rattle.acc_explore.proofs.ReachedArrivals.{all_reached}
use Rattle.acc_explore.proofs.SearchEvents.{may_come}
use Rattle.acc_host.specs.declared.event.Event.{Event}

-- ## Numbers that rise

rising_more : (numbers : List ℕ) (n : ℕ) → AreRising numbers → All (λ (m : ℕ). m ≤ n) numbers → AreRising (numbers ++ n ∷ [])
rising_more [] n rise low = (All-nil (λ (m : ℕ). n ≤ m), tt)
rising_more (x ∷ numbers) n rise low = (
  All-push (λ (m : ℕ). x ≤ m) numbers n rise.0 (All-head (λ (m : ℕ). m ≤ n) x numbers low),
  rising_more numbers n rise.1 (All-tail (λ (m : ℕ). m ≤ n) x numbers low),
)

abbrev depth_at : State → List Arrival → ℕ → ℕ
depth_at start arrivals n = (found_at start arrivals n).depth

-- no state is found before one that is less deep
abbrev ByDepth : State → List Arrival → Type 0
ByDepth start arrivals = (i j : ℕ) → i ≤ j → j ≤ length arrivals → depth_at start arrivals i ≤ depth_at start arrivals j

come : (start : State) (arrivals : List Arrival) (numbers : List ℕ) → ByDepth start arrivals → AreRising numbers → All (λ (n : ℕ). n ≤ length arrivals) numbers → ComeByDepth start arrivals numbers
come start arrivals [] deep rise low = tt
come start arrivals (x ∷ numbers) deep rise low =
    let rest = All-tail (λ (n : ℕ). n ≤ length arrivals) x numbers low in (
      λ k d within. deep x (slice_index_or numbers k d) (rise.0 k d within) (rest k d within),
      come start arrivals numbers deep rise.1 rest,
    )

-- ## The first step

-- ## One event more

module _ (closing : Bool) (most : ℕ) (start : State) (arrivals : List Arrival) (numbers : List ℕ) (next : ℕ) (done : List Event) where
  abbrev at : Found
  at = found_at start arrivals next

  -- what it leads to is like one of those that are found
  pub goes_on_like : IsFollowed closing most start arrivals numbers next done → (e : Event) → next ≤ length arrivals
      → IsLikeOne start arrivals (step false (found_at start arrivals next).state e).state
      → IsFollowed closing most start arrivals numbers next (done ++ e ∷ [])
  goes_on_like f e low like = record {
    events = f.events;
    few = f.few;
    there = f.there;
    by_depth = f.by_depth;
    near = f.near;
    before = f.before;
    these = All-push (λ (e : Event). HoldsAlike (at.depth + 1) (found_by start arrivals) (step false at.state e).state) done e f.these
        (holds_one start arrivals (at.depth + 1) (step false at.state e).state like (f.near like.number low like.there));
    ends = f.ends;
    every_end = f.every_end;
    rising = f.rising;
  }

  -- what it leads to is found now
  module _ (f : IsFollowed closing most start arrivals numbers next done) (e : Event) (low : next ≤ length arrivals) where
    abbrev a : Arrival
    a = record { from = next; by = e }

    abbrev now : List Found
    now = found_by start (a ∷ arrivals)

    kept : (n : ℕ) → n ≤ length arrivals → depth_at start (a ∷ arrivals) n ≡ depth_at start arrivals n
    kept n within = ap (λ (g : Found). g.depth) (stays start a arrivals n within)

    added : (n : ℕ) → n ≡ length arrivals + 1 → depth_at start (a ∷ arrivals) n ≡ at.depth + 1
    added n is = ap (λ (g : Found). g.depth) (ap (λ k. found_at start (a ∷ arrivals) k) is ∙ newest start a arrivals)

    deeper : ByDepth start (a ∷ arrivals)
    deeper i j order within = elim (cases_eq i (length arrivals + 1)) [
      | inl last ↦ (let same : i ≡ j = omega (arith, last, order, within) in omega (arith, ap (depth_at start (a ∷ arrivals)) same))
      | inr early ↦ elim (cases_eq j (length arrivals + 1)) [
        | inl latest ↦ (
            let i_low : i ≤ length arrivals = omega (arith, early, order, within) in
            omega (arith, kept i i_low, added j latest, f.near i low i_low)
            )
        | inr between ↦ (
            let j_low : j ≤ length arrivals = omega (arith, between, within) in
            let i_low : i ≤ length arrivals = omega (arith, order, j_low) in
            omega (arith, kept i i_low, kept j j_low, f.by_depth i j order j_low)
            )
      ]
    ]

    near_now : (n : ℕ) → n ≤ length (a ∷ arrivals) → depth_at start (a ∷ arrivals) n ≤ depth_at start (a ∷ arrivals) next + 1
    near_now n within = elim (cases_eq n (length arrivals + 1)) [
      | inl latest ↦ omega (arith, added n latest, kept next low)
      | inr other ↦ (let n_low : n ≤ length arrivals = omega (arith, other, within) in omega (arith, kept n n_low, kept next low, f.near n low n_low))
    ]

    abbrev Leads : Found → Event → Type 0
    Leads g x = HoldsAlike (g.depth + 1) now (step false g.state x).state

    these_now : All (Leads (found_at start (a ∷ arrivals) next)) (done ++ e ∷ [])
    these_now =
        subst (λ (g : Found). All (Leads g) (done ++ e ∷ [])) (sym (stays start a arrivals next low))
        (All-push (Leads at) done e
        (All-weaker (λ (x : Event). HoldsAlike (at.depth + 1) (found_by start arrivals) (step false at.state x).state) (Leads at)
        (λ x h. holds_more start a arrivals (at.depth + 1) (step false at.state x).state h) done f.these)
        (holds_newest start a arrivals))

    abbrev EndBelow : List Arrival → ℕ → Type 0
    EndBelow found n = (n < next) × IsEnd (found_at start found n).state

    end_kept : (n : ℕ) → EndBelow arrivals n → EndBelow (a ∷ arrivals) n
    end_kept n both = (both.0, subst (λ (g : Found). IsEnd g.state) (sym (stays start a arrivals n (omega (arith, both.0, low)))) both.1)

    pub goes_on_found : length arrivals < most → Contains (open_events closing start) e → IsFollowed closing most start (a ∷ arrivals) numbers next (done ++ e ∷ [])
    goes_on_found room listed = record {
      events = All-cons (λ (b : Arrival). Contains (open_events closing start) b.by) a arrivals listed f.events;
      few = omega (arith, room);
      there = omega (arith, low);
      by_depth = deeper;
      near = λ n there within. near_now n within;
      before = λ n below.
          subst (FollowsEnough closing now) (sym (stays start a arrivals n (omega (arith, below, low))))
          (enough_more start a arrivals closing (found_at start arrivals n) (f.before n below));
      these = these_now;
      ends = All-weaker (EndBelow arrivals) (EndBelow (a ∷ arrivals)) end_kept numbers f.ends;
      every_end = λ n below ends. f.every_end n below (subst (λ (g : Found). IsEnd g.state) (stays start a arrivals n (omega (arith, below, low))) ends);
      rising = f.rising;
    }

  -- ## One state more

  module _ (f : IsFollowed closing most start arrivals numbers next done) (low : next ≤ length arrivals) (followed : FollowsEnough closing (found_by start arrivals) (found_at start arrivals next)) where
    near_next : (n : ℕ) → next + 1 ≤ length arrivals → n ≤ length arrivals → depth_at start arrivals n ≤ depth_at start arrivals (next + 1) + 1
    near_next n there within = omega (arith, f.near n low within, f.by_depth next (next + 1) (omega arith) there)

    before_next : (n : ℕ) → n < next + 1 → FollowsEnough closing (found_by start arrivals) (found_at start arrivals n)
    before_next n below = elim (cases_eq n next) [
      | inl same ↦ subst (λ (k : ℕ). FollowsEnough closing (found_by start arrivals) (found_at start arrivals k)) (sym same) followed
      | inr other ↦ f.before n (omega (arith, below, other))
    ]

    abbrev IsEndAt : ℕ → Type 0
    IsEndAt n = IsEnd (found_at start arrivals n).state

    ends_next : All (λ (n : ℕ). (n < next + 1) × IsEndAt n) numbers
    ends_next = All-weaker (λ (n : ℕ). (n < next) × IsEndAt n) (λ (n : ℕ). (n < next + 1) × IsEndAt n) (λ n both. (omega (arith, both.0), both.1)) numbers f.ends

    none_led : All (λ (e : Event). HoldsAlike (depth_at start arrivals (next + 1) + 1) (found_by start arrivals) (step false (found_at start arrivals (next + 1)).state e).state) []
    none_led = All-nil (λ (e : Event). HoldsAlike (depth_at start arrivals (next + 1) + 1) (found_by start arrivals) (step false (found_at start arrivals (next + 1)).state e).state)

    -- it is no end
    pub goes_past : (IsEnd (found_at start arrivals next).state → ⊥) → IsFollowed closing most start arrivals numbers (next + 1) []
    goes_past no_end = record {
      events = f.events;
      few = f.few;
      there = omega (arith, low);
      by_depth = f.by_depth;
      near = near_next;
      before = before_next;
      these = none_led;
      ends = ends_next;
      every_end = λ n below ends. elim (cases_eq n next) [
        | inl same ↦ absurd (no_end (subst IsEndAt same ends))
        | inr other ↦ f.every_end n (omega (arith, below, other)) ends
      ];
      rising = f.rising;
    }

    -- it is an end
    pub goes_past_end : IsEnd (found_at start arrivals next).state → IsFollowed closing most start arrivals (numbers ++ next ∷ []) (next + 1) []
    goes_past_end is_end = record {
      events = f.events;
      few = f.few;
      there = omega (arith, low);
      by_depth = f.by_depth;
      near = near_next;
      before = before_next;
      these = none_led;
      ends = All-push (λ (n : ℕ). (n < next + 1) × IsEndAt n) numbers next ends_next (omega arith, is_end);
      every_end = λ n below ends. elim (cases_eq n next) [
        | inl same ↦ subst (Contains (numbers ++ next ∷ [])) (sym same) (Contains-push numbers next)
        | inr other ↦ Contains-append_left numbers (next ∷ []) n (f.every_end n (omega (arith, below, other)) ends)
      ];
      rising = rising_more numbers next f.rising (All-weaker (λ (n : ℕ). (n < next) × IsEndAt n) (λ (n : ℕ). n ≤ next) (λ n both. omega (arith, both.0)) numbers f.ends);
    }

-- each is one deeper at most than the next one, which was as deep before
pub near_still : (closing : Bool) (most : ℕ) (start : State) (arrivals : List Arrival) (numbers : List ℕ) (next : ℕ) (done : List Event)
    → IsFollowed closing most start arrivals numbers next done → (old : List Arrival) → depth_at start arrivals next ≡ depth_at start old next → next ≤ length arrivals
    → AreNear start old arrivals next
near_still closing most start arrivals numbers next done f old same low n within = omega (arith, f.near n low within, same)

-- ## The last step

-- the events of the next state that were followed are let go
pub drops : (closing : Bool) (most : ℕ) (start : State) (arrivals : List Arrival) (numbers : List ℕ) (next : ℕ) (done : List Event)
    → IsFollowed closing most start arrivals numbers next done → IsFollowed closing most start arrivals numbers next []
drops closing most start arrivals numbers next done f = record {
  events = f.events;
  few = f.few;
  there = f.there;
  by_depth = f.by_depth;
  near = f.near;
  before = f.before;
  these = All-nil (λ (e : Event). HoldsAlike (depth_at start arrivals next + 1) (found_by start arrivals) (step false (found_at start arrivals next).state e).state);
  ends = f.ends;
  every_end = f.every_end;
  rising = f.rising;
}

-- a state behind so many is one of the others
behind_so_many : (found : List Found) (k n : ℕ) (other : Found) → k ≤ n → n < length found → Contains (drop k found) (slice_index_or found n other)
behind_so_many found zero n other low within = Contains-get_or found n other within
behind_so_many [] (suc k) n other low within = absurd (omega (arith, within))
behind_so_many (f ∷ found) (suc k) zero other low within = absurd (omega (arith, low))
behind_so_many (f ∷ found) (suc k) (suc n) other low within = behind_so_many found k n other (omega (arith, low)) (omega (arith, within))

cut : (closing : Bool) (most : ℕ) (start : State) (arrivals : List Arrival) (numbers : List ℕ) (next : ℕ)
    → IsFollowed closing most start arrivals numbers next [] → IsCut closing (leaves_of start arrivals next) start (found_by start arrivals)
cut closing most start arrivals numbers next f = record {
  first = holds_start start arrivals;
  reached = all_reached closing start arrivals
      (All-weaker (λ (a : Arrival). Contains (open_events closing start) a.by) (λ (a : Arrival). MayCome closing a.by) (λ a listed. may_come closing start a.by listed) arrivals f.events);
  follows = All-from_get_or (FollowsOrLeaves closing (leaves_of start arrivals next) (found_by start arrivals)) (found_by start arrivals) (at_once start)
      (λ n low. elim (cases_lt n next) [
        | inl below ↦ inl (f.before n below)
        | inr behind ↦ inr (behind_so_many (found_by start arrivals) next n (at_once start) (omega (arith, behind)) low)
      ]);
}

pub searched : (closing : Bool) (most deepest : ℕ) (start : State) (arrivals : List Arrival) (numbers : List ℕ) (next : ℕ) (is_whole : Bool)
    → (IsTrue is_whole → next ≤ length arrivals → deepest ≤ (found_at start arrivals next).depth)
    → (is_whole ≡ false → most ≤ length arrivals) → ((n : ℕ) → n ≤ length arrivals → (found_at start arrivals n).depth ≤ deepest)
    → IsFollowed closing most start arrivals numbers next [] → IsSearch closing most deepest start arrivals numbers next is_whole
searched closing most deepest start arrivals numbers next is_whole deep full shallow f =
    let IsEndAt : ℕ → Type 0 = λ n. IsEnd (found_at start arrivals n).state in
    record {
      events = f.events;
      few = f.few;
      there = f.there;
      ends = All-weaker (λ (n : ℕ). (n < next) × IsEndAt n) (λ (n : ℕ). (n ≤ length arrivals) × IsEndAt n) (λ n both. (omega (arith, both.0, f.there), both.1)) numbers f.ends;
      by_depth = come start arrivals numbers f.by_depth f.rising
          (All-weaker (λ (n : ℕ). (n < next) × IsEndAt n) (λ (n : ℕ). n ≤ length arrivals) (λ n both. omega (arith, both.0, f.there)) numbers f.ends);
      cut = cut closing most start arrivals numbers next f;
      deep = λ is n behind low. omega (arith, deep is (omega (arith, behind, low)), f.by_depth next n behind low);
      shallow = shallow;
      stopped = λ no. omega (arith, f.few, full no);
      every_end = f.every_end;
    }
