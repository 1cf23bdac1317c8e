-- What loops reach and use: each array that a loop reaches is one of its arrays, its uses name each array at most once,
-- and they have all cells that it reaches, where it stays in the ranges of its items and these are present.
use Rattle.std.proofs.Common.{◌≡◌, ◌≢◌, ℕ, suc, ◌+◌, ◌<◌, ◌≤◌, Bool, true, false, cond, List, [], ◌∷◌, ◌++◌, length, map, get_or, take, Option, Some, None, refl, sym, ap, subst, ◌∙◌, arith, inl, inr, ◌⊎◌}
use Rattle.std.specs.Prelude.{ℤ, pos, int_lt, int_le, ◌&&◌, ◌||◌, ◌==◌, not, filter, find, is_some}
use Rattle.std.specs.List.{All, AllPairs, Contains, list_any}
use Rattle.std.proofs.lemmas.Bool.{and_parts, cases_Bool}
use Rattle.std.proofs.lemmas.Bool.Decides.{Decides-eqb}
use Rattle.std.proofs.lemmas.Int.{ints}
use Rattle.std.proofs.lemmas.List.{get_or-map, length-map, take_all}
use Rattle.std.proofs.lemmas.List.Elements.{All-append, All-cons, All-head, All-nil, All-tail, All-weaker, filter_passes}
use Rattle.std.proofs.lemmas.List.Folds.{list_any_at, list_any_more}
use Rattle.std.proofs.lemmas.List.Kept.{AllPairs-cons, AllPairs-filter}
use Rattle.acc_base.specs.declared.range.Range.{Range}
use Rattle.acc_kernel.specs.declared.reach.Reach.{Reach}
use Rattle.acc_kernel.specs.Jobs.{Use, AreDistinct, HoldReached, uses_have, no_use, place_of, used_range}
use Rattle.acc_kernel.specs.Kernels.{Loop, Reaches, IsReach, arrays_of, distinct, reach_of, references}
use Rattle.acc_kernel.specs.Trees.{Reference}
use Rattle.acc_batch.specs.declared.label.OpLabel.TheVariants.{Run}
use Rattle.acc_batch.specs.Ops.{HasItsCells}
use Rattle.acc_present.specs.declared.held.Found.{Found}
use Rattle.acc_present.specs.declared.held.Found.TheVariants as look
use Rattle.acc_present.specs.Presences.{Presence, holder, is_present, overlaps_any}
use Rattle.acc_present.specs.Tables.{IsFound}
use Rattle.acc_present.proofs.TableFilter.{none_from_absent}
use Rattle.acc_present.proofs.Holder.{is_present-holder}
use Rattle.acc_place.specs.declared.directive.DataItem.{DataItem}
use Rattle.acc_place.specs.Accepting.{reaches_past}
use Rattle.acc_place.specs.Batches.{found_block}
use Rattle.acc_place.specs.Implicit.{item_of}
use Rattle.acc_place.specs.Loops.{IsInside, StaysInside, StaysInsideOf, use_in, uses_among, uses_in}

-- ## The arrays of a loop

abbrev pub is_among : List ℕ → ℕ → Bool
is_among arrays array = list_any (λ a. a == array) arrays

not_same : (x y : ℕ) → (x == y) ≡ false → x ≢ y
not_same x y other same = let yes : (x == y) ≡ true = (Decides-eqb x y).1 same in let never : ⊥ = cc in never

another : (x y : ℕ) → not (y == x) ≡ true → x ≢ y
another x y other same = let yes : (y == x) ≡ true = (Decides-eqb y x).1 (sym same) in let never : ⊥ = cc in never

distinct_apart : (xs : List ℕ) → AllPairs (λ x y. x ≢ y) (distinct xs)
distinct_apart [] = λ i j d lt below. absurd (omega arith)
distinct_apart (x ∷ xs) =
    AllPairs-cons (λ y z. y ≢ z) x (filter (λ y. not (y == x)) (distinct xs))
    (All-weaker (λ y. not (y == x) ≡ true) (λ y. x ≢ y) (another x) (filter (λ y. not (y == x)) (distinct xs)) (filter_passes (λ y. not (y == x)) (distinct xs)))
    (AllPairs-filter (λ y z. y ≢ z) (λ y. not (y == x)) (distinct xs) (distinct_apart xs))

-- a filter keeps what passes
kept : (p : ℕ → Bool) (x : ℕ) → p x ≡ true → (xs : List ℕ) → is_among xs x ≡ true → is_among (filter p xs) x ≡ true
kept p x passes [] is = is
kept p x passes (y ∷ ys) is = elim (cases_Bool (y == x)) [
  | inl same ↦ (
      let first : p y ≡ true = ap p ((Decides-eqb y x).0 same) ∙ passes in
      rw (first, same) refl
      )
  | inr other ↦ (
      let rest : is_among ys x ≡ true = ap (λ (b : Bool). b || is_among ys x) (sym other) ∙ is in
      elim (cases_Bool (p y)) [ inl first ↦ rw (first, other) (kept p x passes ys rest) | inr first ↦ rw first (kept p x passes ys rest) ]
      )
]

distinct_has : (x : ℕ) (xs : List ℕ) → is_among xs x ≡ true → is_among (distinct xs) x ≡ true
distinct_has x [] is = is
distinct_has x (y ∷ ys) is = elim (cases_Bool (y == x)) [
  | inl same ↦ rw same refl
  | inr other ↦ (
      let rest : is_among ys x ≡ true = ap (λ (b : Bool). b || is_among ys x) (sym other) ∙ is in
      let passes : not (x == y) ≡ true = apart (x == y) refl other in
      rw other (kept (λ z. not (z == y)) x passes (distinct ys) (distinct_has x ys rest))
      )
]
  where
    apart : (b : Bool) → (x == y) ≡ b → (y == x) ≡ false → not (x == y) ≡ true
    apart true e other = absurd (not_same y x other (sym ((Decides-eqb x y).0 e)))
    apart false e other = ap not e

named : (refs : List Reference) (r : Reference) → Contains refs r → is_among (map (λ (s : Reference). s.array) refs) r.array ≡ true
named refs r c =
    let arrays = map (λ (s : Reference). s.array) refs in
    let len : length arrays ≡ length refs = length-map refs (λ (s : Reference). s.array) in
    let within : c.0 < length refs = c.1 in
    let at : get_or arrays c.0 0 ≡ r.array = get_or-map (λ (s : Reference). s.array) refs c.0 r 0 c.1 ∙ ap (λ (s : Reference). s.array) c.2 in
    list_any_at (λ a. a == r.array) arrays c.0 0 (omega arith) ((Decides-eqb (get_or arrays c.0 0) r.array).1 at)

-- a loop reaches cells of its arrays alone
arrays_have : (k : Loop) (array : ℕ) (cell : ℤ) → Reaches k array cell → is_among (arrays_of k) array ≡ true
arrays_have k array cell r =
    distinct_has array (map (λ (s : Reference). s.array) (references k.statements))
    (ap (is_among (map (λ (s : Reference). s.array) (references k.statements))) (sym r.same_array) ∙ named (references k.statements) r.reference r.named)

all_among : (P : ℕ → Type 0) (arrays : List ℕ) (array : ℕ) → All P arrays → is_among arrays array ≡ true → P array
all_among P [] array all is = cc
all_among P (a ∷ rest) array all is = elim (cases_Bool (a == array)) [
  | inl same ↦ subst P ((Decides-eqb a array).0 same) (All-head P a rest all)
  | inr other ↦ all_among P rest array (All-tail P a rest all) (ap (λ (b : Bool). b || is_among rest array) (sym other) ∙ is)
]

-- ## Where a loop reaches

-- an array without a cell that is reached
pub stays_nowhere : (k : Loop) (items : List DataItem) (array : ℕ) → ((cell : ℤ) → Reaches k array cell → ⊥) → StaysInsideOf k items array
stays_nowhere k items array nothing = λ cell r. absurd (nothing cell r)

-- a reach within the first item's range
pub stays_within : (k : Loop) (items : List DataItem) (array : ℕ) (reach : Reach) (i : DataItem) → IsReach k array reach → Some i ≡ item_of array items
    → (int_lt reach.first (pos i.range.lo) || int_le (pos (i.range.lo + i.range.len)) reach.last) ≡ false → StaysInsideOf k items array
stays_within k items array reach i is found inside =
    λ cell r.
    let between = is.between cell r in
    subst (λ (o : Option DataItem). IsInside o cell) found (grind (arith, ints), grind (arith, ints))

pub stays_in_all : (k : Loop) (items : List DataItem) → All (StaysInsideOf k items) (arrays_of k) → StaysInside k items
stays_in_all k items stays = λ array cell r. all_among (StaysInsideOf k items) (arrays_of k) array stays (arrays_have k array cell r) cell r

pub past_more : (k : Loop) (items : List DataItem) (arrays : List ℕ) (i e : ℕ) → i < length arrays
    → list_any (λ array. reaches_past (reach_of k array) (item_of array items)) (take i arrays) ≡ false
    → reaches_past (reach_of k (get_or arrays i e)) (item_of (get_or arrays i e) items) ≡ false
    → list_any (λ array. reaches_past (reach_of k array) (item_of array items)) (take (i + 1) arrays) ≡ false
past_more k items arrays i e lt before here =
    list_any_more (λ array. reaches_past (reach_of k array) (item_of array items)) arrays i e lt
    ∙ (ap (λ (b : Bool). b || reaches_past (reach_of k (get_or arrays i e)) (item_of (get_or arrays i e) items)) before ∙ here)

pub stays_after_all : (k : Loop) (items : List DataItem) (arrays : List ℕ) (i : ℕ) → arrays ≡ arrays_of k → length arrays ≤ i
    → All (StaysInsideOf k items) (take i arrays) → StaysInside k items
stays_after_all k items arrays i is done stays =
    stays_in_all k items (subst (All (StaysInsideOf k items)) is (subst (All (StaysInsideOf k items)) (take_all i arrays done) stays))

-- ## The uses of a loop

find_passes : {X : Type 0} (p : X → Bool) (xs : List X) (x : X) → find p xs ≡ Some x → p x ≡ true
find_passes p [] x e = cc
find_passes p (y ∷ ys) x e = elim (cases_Bool (p y)) [
  | inl here ↦ (
      let first : Some y ≡ Some x = rw here at e in
      let same : y ≡ x = cc in
      ap p (sym same) ∙ here
      )
  | inr misses ↦ (let rest : find p ys ≡ Some x = rw misses at e in find_passes p ys x rest)
]

pub find_all : {X : Type 0} (P : X → Type 0) (p : X → Bool) (xs : List X) (x : X) → All P xs → find p xs ≡ Some x → P x
find_all P p [] x all e = cc
find_all P p (y ∷ ys) x all e = elim (cases_Bool (p y)) [
  | inl here ↦ (
      let first : Some y ≡ Some x = rw here at e in
      let same : y ≡ x = cc in
      subst P same (All-head P y ys all)
      )
  | inr misses ↦ (let rest : find p ys ≡ Some x = rw misses at e in find_all P p ys x (All-tail P y ys all) rest)
]

-- there is none, or one of this array
abbrev IsUseOf : ℕ → List Use → Type 0
IsUseOf array us = (us ≡ []) ⊎ ((u : Use) × (us ≡ u ∷ []) × (u.1.array ≡ array))

present_held : (ps : List Presence) (r : Range) → is_present ps r ≡ true → (p : Presence) × (holder ps r ≡ Some p)
present_held ps r present = found (holder ps r) (sym (is_present-holder ps r) ∙ present)
  where
    found : (o : Option Presence) → is_some o ≡ true → (p : Presence) × (o ≡ Some p)
    found None e = cc
    found (Some p) e = (p, refl)

held_none : (ps : List Presence) (r : Range) (l : Found) → IsFound ps r l → (l ≡ look.Absent) ⊎ (l ≡ look.Partly) → holder ps r ≡ None
held_none ps r look.Absent is which = is.0
held_none ps r look.Partly is which =
    none_from_absent ps r (absent (is_present ps r) (and_parts (overlaps_any ps r) (not (is_present ps r)) is).1)
  where
    absent : (b : Bool) → not b ≡ true → b ≡ false
    absent true e = cc
    absent false e = refl
held_none ps r (look.Present e) is (inl same) = cc
held_none ps r (look.Present e) is (inr same) = cc

-- an item that isn't present isn't used
pub not_used : (ps : List Presence) (items : List DataItem) (array : ℕ) (i : DataItem) (l : Found) → Some i ≡ item_of array items → IsFound ps i.range l → (l ≡ look.Absent) ⊎ (l ≡ look.Partly)
    → [] ≡ use_in ps (item_of array items)
not_used ps items array i l found is which =
    sym (ap (use_in ps) (sym found) ∙ ap (λ o. map (λ b. (b, i.range)) (found_block o)) (held_none ps i.range l is which))

module _ (items : List DataItem) (ps : List Presence) where
  one_held : (array : ℕ) (i : DataItem) → i.range.array ≡ array → (o : Option Presence) → IsUseOf array (map (λ b. (b, i.range)) (found_block o))
  one_held array i same None = inl refl
  one_held array i same (Some p) = inr ((p.block, i.range), refl, same)

  one_found : (array : ℕ) (o : Option DataItem) → o ≡ item_of array items → IsUseOf array (use_in ps o)
  one_found array None e = inl refl
  one_found array (Some i) e =
      one_held array i ((Decides-eqb i.range.array array).0 (find_passes (λ (j : DataItem). j.range.array == array) items i (sym e))) (holder ps i.range)

  one_use : (array : ℕ) → IsUseOf array (use_in ps (item_of array items))
  one_use array = one_found array (item_of array items) refl

  -- what is so of the arrays is so of those of their uses
  uses_arrays : (P : ℕ → Type 0) (arrays : List ℕ) → All P arrays → All (λ (u : Use). P u.1.array) (uses_among items ps arrays)
  uses_arrays P [] all = All-nil (λ (u : Use). P u.1.array)
  uses_arrays P (a ∷ rest) all =
      All-append (λ (u : Use). P u.1.array) (use_in ps (item_of a items)) (uses_among items ps rest) first (uses_arrays P rest (All-tail P a rest all))
    where
      first : All (λ (u : Use). P u.1.array) (use_in ps (item_of a items))
      first = elim (one_use a) [
        | inl none ↦ rw none (All-nil (λ (u : Use). P u.1.array))
        | inr one ↦ rw one.1 (All-cons (λ (u : Use). P u.1.array) one.0 [] (subst P (sym one.2) (All-head P a rest all)) (All-nil (λ (u : Use). P u.1.array)))
      ]

  apart_first : (a : ℕ) (rest : List ℕ) → AllPairs (λ x y. x ≢ y) (a ∷ rest) → AreDistinct (uses_among items ps rest) → AreDistinct (uses_among items ps (a ∷ rest))
  apart_first a rest apart others = elim (one_use a) [
    | inl none ↦ rw none others
    | inr one ↦ rw one.1 (AllPairs-cons (λ (u v : Use). u.1.array ≢ v.1.array) one.0 (uses_among items ps rest) (rw one.2 first) others)
  ]
    where
      first : All (λ (u : Use). a ≢ u.1.array) (uses_among items ps rest)
      first = uses_arrays (λ x. a ≢ x) rest (λ i d below. apart 0 (suc i) d (omega arith) (omega arith))

  apart_in : (arrays : List ℕ) → AllPairs (λ x y. x ≢ y) arrays → AreDistinct (uses_among items ps arrays)
  apart_in [] apart = λ i j d lt below. absurd (omega arith)
  apart_in (a ∷ rest) apart = apart_first a rest apart (apart_in rest (λ i j d lt below. apart (suc i) (suc j) d (omega arith) (omega arith)))

  -- each array is used at most once
  pub uses_distinct : (k : Loop) → AreDistinct (uses_in k items ps)
  uses_distinct k = apart_in (arrays_of k) (distinct_apart (map (λ (r : Reference). r.array) (references k.statements)))

  -- ## The cells of the uses

  range_first : (u : Use) (us : List Use) (array : ℕ) → (u.1.array == array) ≡ true → used_range (u ∷ us) array ≡ u.1
  range_first u us array same = ap (λ (b : Bool). (get_or (u ∷ us) (cond (not b) (1 + place_of us array) 0) no_use).1) same

  range_next : (u : Use) (us : List Use) (array : ℕ) → (u.1.array == array) ≡ false → used_range (u ∷ us) array ≡ used_range us array
  range_next u us array other =
      let behind : 1 + place_of us array ≡ suc (place_of us array) = omega arith in
      ap (λ (b : Bool). (get_or (u ∷ us) (cond (not b) (1 + place_of us array) 0) no_use).1) other
      ∙ ap (λ (n : ℕ). (get_or (u ∷ us) n no_use).1) behind

  range_behind : (a : ℕ) (rest : List ℕ) (array : ℕ) → (a == array) ≡ false
      → used_range (uses_among items ps (a ∷ rest)) array ≡ used_range (uses_among items ps rest) array
  range_behind a rest array other = elim (one_use a) [
    | inl none ↦ ap (λ (us : List Use). used_range (us ++ uses_among items ps rest) array) none
    | inr one ↦
        ap (λ (us : List Use). used_range (us ++ uses_among items ps rest) array) one.1
        ∙ range_next one.0 (uses_among items ps rest) array (ap (λ x. x == array) one.2 ∙ other)
  ]

  -- the range that is used of an array is that of its first item, where this is present
  range_used : (arrays : List ℕ) (array : ℕ) (i : DataItem) (p : Presence) → is_among arrays array ≡ true → item_of array items ≡ Some i → holder ps i.range ≡ Some p
      → used_range (uses_among items ps arrays) array ≡ i.range
  range_used [] array i p is found held = cc
  range_used (a ∷ rest) array i p is found held = elim (cases_Bool (a == array)) [
    | inl same ↦ (
        let whole : use_in ps (item_of a items) ≡ (p.block, i.range) ∷ [] =
        ap (λ x. use_in ps (item_of x items)) ((Decides-eqb a array).0 same)
        ∙ (ap (use_in ps) found ∙ ap (λ o. map (λ b. (b, i.range)) (found_block o)) held) in
        ap (λ (us : List Use). used_range (us ++ uses_among items ps rest) array) whole
        ∙ range_first (p.block, i.range) (uses_among items ps rest) array (find_passes (λ (j : DataItem). j.range.array == array) items i found)
        )
    | inr other ↦
        range_behind a rest array other
        ∙ range_used rest array i p (ap (λ (b : Bool). b || is_among rest array) (sym other) ∙ is) found held
  ]

  held_at : (arrays : List ℕ) (array : ℕ) (cell : ℤ) → All (λ (i : DataItem). is_present ps i.range ≡ true) items → is_among arrays array ≡ true
      → (o : Option DataItem) → item_of array items ≡ o → IsInside o cell → uses_have (uses_among items ps arrays) array cell ≡ true
  held_at arrays array cell present is None found inside = absurd inside
  held_at arrays array cell present is (Some i) found inside =
      let here = find_all (λ (j : DataItem). is_present ps j.range ≡ true) (λ (j : DataItem). j.range.array == array) items i present found in
      let holds = present_held ps i.range here in
      subst (λ (r : Range). (int_le (pos r.lo) cell && int_lt cell (pos (r.lo + r.len))) ≡ true) (sym (range_used arrays array i holds.0 is found holds.1))
      (grind (arith, ints))

  -- A loop that stays in the ranges of its items uses all cells that it reaches, where each item is present.
  pub uses_hold : (k : Loop) → StaysInside k items → All (λ (i : DataItem). is_present ps i.range ≡ true) items → HoldReached k (uses_in k items ps)
  uses_hold k stays present = λ array cell r. held_at (arrays_of k) array cell present (arrays_have k array cell r) (item_of array items) refl (stays array cell r)

  pub run_has_its_cells : (k : Loop) → StaysInside k items → All (λ (i : DataItem). is_present ps i.range ≡ true) items → HasItsCells (Run k (uses_in k items ps))
  run_has_its_cells k stays present = (uses_distinct k, uses_hold k stays present)
