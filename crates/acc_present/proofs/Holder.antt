-- What a binary search of a table finds: only the last range that does not begin behind another can contain it,
-- and only that one and the next can be the first to overlap it.
use Rattle.std.proofs.Common.{◌≡◌, ℕ, zero, suc, ◌+◌, ◌-◌, ◌<◌, ◌≤◌, Bool, true, false, List, [], ◌∷◌, length, map, get_or, Option, Some, None, refl, sym, ap, ◌∙◌, arith, inl, inr}
use Rattle.std.specs.Prelude.{◌||◌, nat_lt, slice_get, is_some}
use Rattle.std.specs.Option.{option_map_or}
use Rattle.std.proofs.Math.Bool.{and-false}
use Rattle.std.proofs.lemmas.Bool.{cases_Bool, and_parts}
use Rattle.std.proofs.lemmas.Bool.Decides.{nat_tests}
use Rattle.acc_base.specs.declared.range.Range.{Range}
use Rattle.acc_base.specs.Ranges.{range_contains, range_overlaps}
use Rattle.acc_present.specs.declared.entry.Entry.{Entry}
use Rattle.acc_present.specs.Lifetimes.{is_before}
use Rattle.acc_present.specs.Presences.{Presence, holder, is_present, is_partly_present, overlaps_any}
use Rattle.acc_present.specs.inner.Keys.{behind}
use Rattle.acc_present.specs.Tables.{is_table, ends_before, ends_before_all, entry_presence}
use Rattle.acc_present.proofs.TableOrder.{table_parts, before_through}

pub behind-hit : (r : Range) (p : Presence) (ps : List Presence) → is_before r p.range ≡ true → behind r (p ∷ ps) ≡ 0
behind-hit r p ps hit = rw hit refl

pub behind-miss : (r : Range) (p : Presence) (ps : List Presence) → is_before r p.range ≡ false → behind r (p ∷ ps) ≡ suc (behind r ps)
behind-miss r p ps miss =
    let one : behind r (p ∷ ps) ≡ 1 + behind r ps = rw miss refl in
    omega (arith, one)

-- ## The index that a search by halves gives

pub behind_within : (r : Range) (es : List Entry) → behind r (map entry_presence es) ≤ length es
behind_within r [] = omega arith
behind_within r (e ∷ es) = elim (cases_Bool (is_before r e.range)) [
  | inl hit ↦ (let first = behind-hit r (entry_presence e) (map entry_presence es) hit in omega (arith, first))
  | inr miss ↦ (let later = behind-miss r (entry_presence e) (map entry_presence es) miss in let rest = behind_within r es in omega (arith, later, rest))
]

-- ## The entry that contains a range

abbrev pub held_by : Range → Option Presence → Option Presence
held_by r None = None
held_by r (Some p) = holder (p ∷ []) r

abbrev pub held_at : List Presence → Range → ℕ → Option Presence
held_at ps r zero = None
held_at ps r (suc i) = held_by r (slice_get ps i)

-- what begins behind a range's first cell doesn't contain the range
pub not_held : (r a : Range) → is_before r a ≡ true → 0 < r.len → range_contains a r ≡ false
unfolding is_before range_contains
not_held r a h cells = grind (arith, nat_tests, h, cells)

none_held : (r a : Range) (ps : List Presence) → is_before r a ≡ true → ends_before_all a ps ≡ true → 0 < r.len → holder ps r ≡ None
none_held r a [] h k cells = refl
none_held r a (p ∷ ps) h k cells =
    let parts = and_parts (ends_before a p.range) (ends_before_all a ps) k in
    rw (not_held r p.range (before_through r a p.range h parts.0) cells) (none_held r a ps h parts.1 cells)

-- what ends before a range that begins no later than another doesn't contain the other, and doesn't overlap it
not_held_before : (r a b : Range) → ends_before a b ≡ true → is_before r b ≡ false → 0 < r.len → range_contains a r ≡ false
unfolding is_before range_contains
not_held_before r a b h k cells = grind (arith, nat_tests, h, k, cells)

pub not_met_before : (r a b : Range) → ends_before a b ≡ true → is_before r b ≡ false → range_overlaps a r ≡ false
unfolding is_before range_overlaps
not_met_before r a b h k = grind (arith, nat_tests, h, k)

pub holder_is : (ps : List Presence) (r : Range) → is_table ps ≡ true → 0 < r.len → holder ps r ≡ held_at ps r (behind r ps)
holder_is [] r t cells = refl
holder_is (p ∷ []) r t cells = elim (cases_Bool (is_before r p.range)) [
  | inl hit ↦ rw (behind-hit r p [] hit, not_held r p.range hit cells) refl
  | inr miss ↦ rw (behind-miss r p [] miss) refl
]
holder_is (p ∷ q ∷ ps) r t cells =
    let parts = table_parts p (q ∷ ps) t in
    let apart = and_parts (ends_before p.range q.range) (ends_before_all p.range ps) parts.first in
    let rest = table_parts q ps parts.others in
    elim (cases_Bool (is_before r p.range)) [
      | inl hit ↦ rw (behind-hit r p (q ∷ ps) hit, not_held r p.range hit cells) (none_held r p.range (q ∷ ps) hit parts.first cells)
      | inr miss ↦ elim (cases_Bool (is_before r q.range)) [
        | inl next ↦
            let none : holder (q ∷ ps) r ≡ None = rw (not_held r q.range next cells) (none_held r q.range ps next rest.first cells) in
            rw (behind-miss r p (q ∷ ps) miss, behind-hit r q ps next, none) refl
        | inr further ↦
            rw (behind-miss r p (q ∷ ps) miss, behind-miss r q ps further, not_held_before r p.range q.range apart.0 further cells)
            (holder_is (q ∷ ps) r parts.others cells ∙ ap (held_at (q ∷ ps) r) (behind-miss r q ps further))
      ]
    ]

-- ## The entries that overlap a range

abbrev pub overlaps_at : List Presence → Range → ℕ → Bool
overlaps_at ps r i = option_map_or (λ p. range_overlaps p.range r) (slice_get ps i) false

abbrev pub met_at : List Presence → Range → ℕ → Bool
met_at ps r zero = overlaps_at ps r 0
met_at ps r (suc i) = overlaps_at ps r i || overlaps_at ps r (suc i)

-- what begins behind a range's first cell, and doesn't overlap the range, has none behind it that does
not_met_behind : (r a b : Range) → is_before r a ≡ true → nat_lt 0 a.len ≡ true → range_overlaps a r ≡ false → ends_before a b ≡ true → range_overlaps b r ≡ false
unfolding is_before range_overlaps
not_met_behind r a b h some miss k = grind (arith, nat_tests, h, some, miss, k)

none_met : (r a : Range) (ps : List Presence) → is_before r a ≡ true → nat_lt 0 a.len ≡ true → range_overlaps a r ≡ false → ends_before_all a ps ≡ true → overlaps_any ps r ≡ false
none_met r a [] h some miss k = refl
none_met r a (p ∷ ps) h some miss k =
    let parts = and_parts (ends_before a p.range) (ends_before_all a ps) k in
    rw (not_met_behind r a p.range h some miss parts.0) (none_met r a ps h some miss parts.1)

first_meets : (p : Presence) (ps : List Presence) (r : Range) → is_table (p ∷ ps) ≡ true → is_before r p.range ≡ true → overlaps_any (p ∷ ps) r ≡ range_overlaps p.range r
first_meets p ps r t h =
    let parts = table_parts p ps t in
    elim (cases_Bool (range_overlaps p.range r)) [
      | inl meets ↦ rw meets refl
      | inr misses ↦ rw misses (none_met r p.range ps h parts.cells misses parts.first)
    ]

pub overlaps_is : (ps : List Presence) (r : Range) → is_table ps ≡ true → overlaps_any ps r ≡ met_at ps r (behind r ps)
overlaps_is [] r t = refl
overlaps_is (p ∷ []) r t = elim (cases_Bool (is_before r p.range)) [
  | inl hit ↦ rw (behind-hit r p [] hit) (first_meets p [] r t hit)
  | inr miss ↦ rw (behind-miss r p [] miss) refl
]
overlaps_is (p ∷ q ∷ ps) r t =
    let parts = table_parts p (q ∷ ps) t in
    let apart = and_parts (ends_before p.range q.range) (ends_before_all p.range ps) parts.first in
    elim (cases_Bool (is_before r p.range)) [
      | inl hit ↦ rw (behind-hit r p (q ∷ ps) hit) (first_meets p (q ∷ ps) r t hit)
      | inr miss ↦ elim (cases_Bool (is_before r q.range)) [
        | inl next ↦ rw (behind-miss r p (q ∷ ps) miss, behind-hit r q ps next) (ap (λ b. range_overlaps p.range r || b) (first_meets q ps r parts.others next))
        | inr further ↦
            rw (behind-miss r p (q ∷ ps) miss, behind-miss r q ps further, not_met_before r p.range q.range apart.0 further)
            (overlaps_is (q ∷ ps) r parts.others ∙ ap (met_at (q ∷ ps) r) (behind-miss r q ps further))
      ]
    ]

-- ## The same over a table's entries

pub slice_get-shown : {X : Type 0} (shows : X → Presence) (xs : List X) (i : ℕ) (x : X) → i < length xs → x ≡ get_or xs i x → slice_get (map shows xs) i ≡ Some (shows x)
slice_get-shown shows [] i x low is = absurd (omega arith)
slice_get-shown shows (y ∷ xs) zero x low is = ap (λ k. Some (shows k)) (sym is)
slice_get-shown shows (y ∷ xs) (suc i) x low is = slice_get-shown shows xs i x (omega arith) is

pub holder_is-none : (ps : List Presence) (r : Range) (k : ℕ) → is_table ps ≡ true → 0 < r.len → k ≡ behind r ps → k ≡ 0 → holder ps r ≡ None
holder_is-none ps r k t cells is none = holder_is ps r t cells ∙ ap (held_at ps r) (sym is ∙ none)

pub holder_is-later : (es : List Entry) (r : Range) (k : ℕ) (x : Entry) → is_table (map entry_presence es) ≡ true → 0 < r.len → k ≡ behind r (map entry_presence es) → 0 < k
    → k - 1 < length es → x ≡ get_or es (k - 1) x → holder (map entry_presence es) r ≡ holder (entry_presence x ∷ []) r
holder_is-later es r k x t cells is some low at =
    let ps = map entry_presence es in
    let one : suc (k - 1) ≡ k = omega arith in
    holder_is ps r t cells ∙ (ap (held_at ps r) (sym (one ∙ is)) ∙ ap (held_by r) (slice_get-shown entry_presence es (k - 1) x low at))

-- ## Present, and part of a presence

pub is_present-holder : (ps : List Presence) (r : Range) → is_present ps r ≡ is_some (holder ps r)
is_present-holder [] r = refl
is_present-holder (p ∷ ps) r = elim (cases_Bool (range_contains p.range r)) [
  | inl has ↦ rw has refl
  | inr misses ↦ rw misses (is_present-holder ps r)
]

pub is_present-none : (ps : List Presence) (r : Range) → holder ps r ≡ None → is_present ps r ≡ false
is_present-none ps r none = is_present-holder ps r ∙ ap is_some none

pub is_present-some : (ps : List Presence) (r : Range) (p : Presence) → holder ps r ≡ Some p → is_present ps r ≡ true
is_present-some ps r p some = is_present-holder ps r ∙ ap is_some some

pub holder-contains : (ps : List Presence) (r : Range) (p : Presence) → holder ps r ≡ Some p → range_contains p.range r ≡ true
holder-contains [] r p some = cc
holder-contains (q ∷ ps) r p some = elim (cases_Bool (range_contains q.range r)) [
  | inl has ↦ (let same : Some q ≡ Some p = rw has at some in let e : q ≡ p = cc in rw (← e) has)
  | inr misses ↦ holder-contains ps r p (rw misses at some)
]

pub not_partly : (ps : List Presence) (r : Range) → is_present ps r ≡ true → is_partly_present ps r ≡ false
not_partly ps r held = rw held (and-false (overlaps_any ps r))
