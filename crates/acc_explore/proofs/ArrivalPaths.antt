-- The events that lead to a state that was found.
use Rattle.std.proofs.Common.{inl, inr, ◌≡◌, ◌+◌, ◌<◌, ◌≤◌, ℕ, zero, suc, true, false, List, [], ◌∷◌, ◌++◌, length, take, drop, get_or, reverse, refl, sym, ap, ◌∙◌, arith}
use Rattle.std.specs.Prelude.{◌==◌, Contains, slice_index_or}
use Rattle.std.proofs.lemmas.Bool.{cases_eq, eq-eqb, ne_eqb}
use Rattle.std.proofs.lemmas.List.{append_assoc, length-append, length-reverse, length-take, reverse-append, take-append-drop}
use Rattle.acc_core.specs.Machine.{State, step}
use Rattle.acc_host.specs.declared.event.Event.{Event}
use Rattle.acc_explore.specs.Arrivals.{EventsLeadThere, at_once, events_to, found_at, found_behind, found_by}
use Rattle.acc_explore.specs.declared.arrival.Arrival.{Arrival}
use Rattle.acc_explore.specs.Explorations.{Found}
use Rattle.acc_explore.proofs.AfterMore.{after_more}

-- ## The law

pub at_end : (found : List Found) (f other : Found) → slice_index_or (found ++ f ∷ []) (length found) other ≡ f
at_end [] f other = refl
at_end (g ∷ found) f other = at_end found f other

pub beside : (found : List Found) (f other : Found) (n : ℕ) → (n ≡ length found → ⊥) → slice_index_or (found ++ f ∷ []) n other ≡ slice_index_or found n other
beside [] f other zero differ = absurd (differ refl)
beside [] f other (suc n) differ = refl
beside (g ∷ found) f other zero differ = refl
beside (g ∷ found) f other (suc n) differ = beside found f other n (λ e. differ (omega (arith, e)))

pub length_found : (start : State) (arrivals : List Arrival) → length (found_by start arrivals) ≡ length arrivals + 1
length_found start [] = refl
length_found start (a ∷ before) =
    omega (arith, length-append (found_by start before) (found_behind (found_at start before a.from) a ∷ []), length_found start before)

-- what is found behind so many has a number
pub record HasNumber (start : State) (arrivals : List Arrival) (least : ℕ) (f : Found) : Type 0 where
  pub n : ℕ
  pub behind : least ≤ n
  pub low : n ≤ length arrivals
  pub is : found_at start arrivals n ≡ f

pub numbered : (start : State) (arrivals : List Arrival) (least : ℕ) (f : Found) → Contains (drop least (found_by start arrivals)) f → HasNumber start arrivals least f
numbered start arrivals least f listed =
    let there = behind (found_by start arrivals) least f (at_once start) listed in
    record { n = there.0; behind = there.1; low = omega (arith, there.2, length_found start arrivals); is = there.3 }
  where
    read : (found : List Found) (k : ℕ) (f other : Found) → k < length found → get_or found k f ≡ f → slice_index_or found k other ≡ f
    read [] k f other low is = absurd (omega (arith, low))
    read (g ∷ found) zero f other low is = is
    read (g ∷ found) (suc k) f other low is = read found k f other (omega (arith, low)) is

    behind : (found : List Found) (k : ℕ) (f other : Found) → Contains (drop k found) f
        → (n : ℕ) × (k ≤ n) × (n < length found) × (slice_index_or found n other ≡ f)
    behind found zero f other listed = (listed.0, omega arith, listed.1, read found listed.0 f other listed.1 listed.2)
    behind [] (suc k) f other listed = absurd (omega (arith, listed.1))
    behind (g ∷ found) (suc k) f other listed =
        let b = behind found k f other listed in (suc b.0, omega (arith, b.1), omega (arith, b.2), b.3)

pub events_lead : EventsLeadThere
events_lead start [] zero = (refl, refl)
events_lead start [] (suc n) = (refl, refl)
events_lead start (a ∷ before) n = elim (cases_eq n (length before + 1)) [
  | inl same ↦ (
      let found = found_by start before in
      let f = found_at start before a.from in
      let here : (n == length before + 1) ≡ true = eq-eqb n (length before + 1) same in
      let ih = events_lead start before a.from in
      let is : slice_index_or (found ++ found_behind f a ∷ []) n (at_once start) ≡ found_behind f a =
      ap (λ k. slice_index_or (found ++ found_behind f a ∷ []) k (at_once start)) (same ∙ sym (length_found start before)) ∙ at_end found (found_behind f a) (at_once start) in
      rw here (
        after_more start (events_to before a.from) a.by ∙ (ap (λ (w : State). (step false w a.by).state) ih.0 ∙ sym (ap (λ (g : Found). g.state) is)),
        omega (arith, length-append (events_to before a.from) (a.by ∷ []), ih.1, ap (λ (g : Found). g.depth) is),
      )
      )
  | inr other ↦ (
      let found = found_by start before in
      let f = found_at start before a.from in
      let away : (n == length before + 1) ≡ false = ne_eqb n (length before + 1) other in
      let ih = events_lead start before n in
      let is = beside found (found_behind f a) (at_once start) n (λ e. other (e ∙ length_found start before)) in
      rw away (ih.0 ∙ sym (ap (λ (g : Found). g.state) is), ih.1 ∙ sym (ap (λ (g : Found). g.depth) is))
      )
]

-- ## How a path is found, from its end

-- later arrivals don't matter
cut : (later before : List Arrival) (n : ℕ) → n ≤ length before → events_to (later ++ before) n ≡ events_to before n
cut [] before n low = refl
cut (a ∷ later) before n low =
    let away : (n == length (later ++ before) + 1) ≡ false = ne_eqb n (length (later ++ before) + 1) (omega (arith, low, length-append later before)) in
    rw away (cut later before n low)

-- a number that is too high leads nowhere
none_there : (arrivals : List Arrival) (n : ℕ) → length arrivals < n → events_to arrivals n ≡ []
none_there [] n high = refl
none_there (a ∷ before) n high =
    let away : (n == length before + 1) ≡ false = ne_eqb n (length before + 1) (omega (arith, high)) in
    rw away (none_there before n (omega (arith, high)))

first_of : (arrivals : List Arrival) (n : ℕ) → n ≤ length arrivals → events_to (reverse arrivals) n ≡ events_to (reverse (take n arrivals)) n
first_of arrivals n low =
    ap (λ xs. events_to (reverse xs) n) (sym (take-append-drop n arrivals))
    ∙ (ap (λ xs. events_to xs n) (reverse-append (take n arrivals) (drop n arrivals))
    ∙ cut (reverse (drop n arrivals)) (reverse (take n arrivals)) n (omega (arith, length-reverse (take n arrivals), length-take n arrivals, low)))

pub zero_there : (arrivals : List Arrival) → events_to arrivals 0 ≡ []
zero_there [] = refl
zero_there (a ∷ before) = let away : (0 == length before + 1) ≡ false = ne_eqb 0 (length before + 1) (omega arith) in rw away (zero_there before)

-- the last event of a path, and the path behind which it stands
pub path_more : (arrivals : List Arrival) (n : ℕ) (a : Arrival) → n < length arrivals → take (n + 1) arrivals ≡ take n arrivals ++ a ∷ []
    → (from : ℕ) → from ≡ a.from → from ≤ n → events_to (reverse arrivals) (n + 1) ≡ events_to (reverse arrivals) from ++ a.by ∷ []
path_more arrivals n a low more from is within =
    let before = reverse (take n arrivals) in
    let len : length before ≡ n = omega (arith, length-reverse (take n arrivals), length-take n arrivals, low) in
    let whole : reverse (take (n + 1) arrivals) ≡ a ∷ before = ap reverse more ∙ reverse-append (take n arrivals) (a ∷ []) in
    let here : (n + 1 == length before + 1) ≡ true = eq-eqb (n + 1) (length before + 1) (omega (arith, len)) in
    let one : events_to (a ∷ before) (n + 1) ≡ events_to before a.from ++ a.by ∷ [] = rw here refl in
    let mid : events_to before from ≡ events_to (reverse arrivals) from =
    sym (ap (λ xs. events_to (reverse xs) from) (sym (take-append-drop n arrivals))
    ∙ (ap (λ xs. events_to xs from) (reverse-append (take n arrivals) (drop n arrivals)) ∙ cut (reverse (drop n arrivals)) before from (omega (arith, len, within)))) in
    first_of arrivals (n + 1) (omega (arith, low))
    ∙ (ap (λ xs. events_to xs (n + 1)) whole ∙ (one ∙ ap (λ xs. xs ++ a.by ∷ []) (ap (events_to before) (sym is) ∙ mid)))

-- where the number before it is too high, it stands alone
pub path_alone : (arrivals : List Arrival) (n : ℕ) (a : Arrival) → n < length arrivals → take (n + 1) arrivals ≡ take n arrivals ++ a ∷ [] → n < a.from
    → events_to (reverse arrivals) (n + 1) ≡ events_to (reverse arrivals) 0 ++ a.by ∷ []
path_alone arrivals n a low more high =
    let before = reverse (take n arrivals) in
    let len : length before ≡ n = omega (arith, length-reverse (take n arrivals), length-take n arrivals, low) in
    let whole : reverse (take (n + 1) arrivals) ≡ a ∷ before = ap reverse more ∙ reverse-append (take n arrivals) (a ∷ []) in
    let here : (n + 1 == length before + 1) ≡ true = eq-eqb (n + 1) (length before + 1) (omega (arith, len)) in
    let one : events_to (a ∷ before) (n + 1) ≡ events_to before a.from ++ a.by ∷ [] = rw here refl in
    first_of arrivals (n + 1) (omega (arith, low))
    ∙ (ap (λ xs. events_to xs (n + 1)) whole
    ∙ (one ∙ ap (λ xs. xs ++ a.by ∷ []) (none_there before a.from (omega (arith, len, high)) ∙ sym (zero_there (reverse arrivals)))))

-- the events from the end on, with one more before them
pub path_step : (from left : List Event) (e : Event) (events new whole : List Event) → new ≡ events ++ e ∷ [] → left ≡ from ++ e ∷ [] → left ++ reverse events ≡ whole → from ++ reverse new ≡ whole
path_step from left e events new whole pushed more path =
    ap (λ xs. from ++ reverse xs) pushed
    ∙ (ap (λ xs. from ++ xs) (reverse-append events (e ∷ []))
    ∙ (sym (append_assoc from (e ∷ []) (reverse events)) ∙ (ap (λ xs. xs ++ reverse events) (sym more) ∙ path)))
