-- What one mark leaves of a table: it stays a table, and grows by one presence at most.
use Rattle.std.proofs.Common.{◌≡◌, ℕ, suc, ◌+◌, ◌<◌, ◌≤◌, true, false, cond, List, [], ◌∷◌, length, length-append, map, set, get_or, Option, Some, None, refl, sym, ap, ◌∙◌, arith, inl, inr}
use Rattle.std.specs.Prelude.{◌&&◌, filter, insert, remove, not}
use Rattle.std.proofs.lemmas.Bool.{cases_Bool}
use Rattle.std.proofs.lemmas.List.{length-map}
use Rattle.std.proofs.lemmas.List.Filters.{length-filter_both}
use Rattle.std.proofs.lemmas.List.Sums.{sum_by-insert}
use Rattle.acc_base.specs.declared.range.Range.{Range}
use Rattle.acc_base.specs.Ranges.{range_contains}
use Rattle.acc_present.specs.Marks.{Mark}
use Rattle.acc_present.specs.Lifetimes.{can_open, is_before}
use Rattle.acc_present.specs.Presences.{Presence, holder, is_present, is_partly_present, used_cells}
use Rattle.acc_present.specs.Tables.{presence_after, stepped, has_count, kept_after, presences_after, presence_inserted, opening, is_table}
use Rattle.acc_present.proofs.KeptAfter.{kept_at, kept_none}
use Rattle.acc_present.proofs.EnterAndExit.{stays, no_overlap}
use Rattle.acc_present.proofs.Presences.{opens_with_one}
use Rattle.acc_present.proofs.PresenceInserted.{insert_is_placed, is_table-insert}
use Rattle.acc_present.proofs.TableOrder.{is_table-set, is_table-remove}
use Rattle.acc_present.proofs.Holder.{is_present-none, is_present-some}
use Rattle.acc_present.specs.inner.Keys.{behind}

-- ## The presence that a range is part of, and its index

pub record FoundIn (ps : List Presence) (r : Range) (x : Presence) : Type 0 where
  pub index : ℕ
  pub low : index < length ps
  pub is : x ≡ get_or ps index x
  pub has : range_contains x.range r ≡ true

pub found_in : (ps : List Presence) (r : Range) (x : Presence) → holder ps r ≡ Some x → FoundIn ps r x
found_in [] r x some = absurd (cc)
found_in (p ∷ ps) r x some = elim (cases_Bool (range_contains p.range r)) [
  | inl has ↦
      let same : Some p ≡ Some x = rw has at some in
      let e : p ≡ x = cc in
      record { index = 0; low = omega arith; is = sym e; has = rw (← e) has }
  | inr misses ↦
      let f = found_in ps r x (rw misses at some) in
      record { index = suc f.index; low = omega (arith, f.low); is = f.is; has = f.has }
]

-- ## After a mark

-- a mark that opens gives the presence its first count
pub counted_once : (m : Mark) (b : ℕ) → can_open m.change ≡ true → has_count (opening m b) ≡ true
counted_once m b can = rw (opens_with_one m.change can) refl

pub opens_at : (m : Mark) (b : ℕ) (ps : List Presence) → is_table ps ≡ true → can_open m.change ≡ true → holder ps m.range ≡ None
    → presences_after m b ps ≡ insert ps (behind m.range ps) (opening m b)
opens_at m b ps t can none =
    let absent = is_present-none ps m.range none in
    let kept = kept_none m ps t absent in
    rw (can, absent) (ap (presence_inserted (opening m b)) kept ∙ sym (insert_is_placed (opening m b) ps t))

pub shut_at : (m : Mark) (b : ℕ) (ps : List Presence) → is_table ps ≡ true → can_open m.change ≡ false → holder ps m.range ≡ None → presences_after m b ps ≡ ps
shut_at m b ps t cannot none = rw cannot (kept_none m ps t (is_present-none ps m.range none))

pub counts_at : (m : Mark) (b : ℕ) (ps : List Presence) (x : Presence) (f : FoundIn ps m.range x) → is_table ps ≡ true → 0 < m.range.len → holder ps m.range ≡ Some x
    → presences_after m b ps ≡ cond (has_count (stepped m.change x)) (set ps f.index (stepped m.change x)) (remove ps f.index)
counts_at m b ps x f t cells some =
    sym (stays m b ps (is_present-some ps m.range x some)) ∙ kept_at m ps f.index x t f.low f.is cells f.has

pub is_table-after : (m : Mark) (b : ℕ) (ps : List Presence) → is_table ps ≡ true → 0 < m.range.len → is_partly_present ps m.range ≡ false → is_table (presences_after m b ps) ≡ true
is_table-after m b ps t cells whole = by_holder (holder ps m.range) refl
  where
    by_holder : (o : Option Presence) → holder ps m.range ≡ o → is_table (presences_after m b ps) ≡ true
    by_holder None none = elim (cases_Bool (can_open m.change)) [
      | inl can ↦
          ap is_table (opens_at m b ps t can none)
          ∙ is_table-insert (opening m b) ps t cells (counted_once m b can) (no_overlap ps m.range (is_present-none ps m.range none) whole)
      | inr cannot ↦ ap is_table (shut_at m b ps t cannot none) ∙ t
    ]
    by_holder (Some x) some =
        let f = found_in ps m.range x some in
        let e = counts_at m b ps x f t cells some in
        elim (cases_Bool (has_count (stepped m.change x))) [
          | inl counted ↦
              ap is_table (e ∙ ap (λ v. cond v (set ps f.index (stepped m.change x)) (remove ps f.index)) counted)
              ∙ is_table-set ps f.index x (stepped m.change x) t f.low f.is refl counted
          | inr over ↦
              ap is_table (e ∙ ap (λ v. cond v (set ps f.index (stepped m.change x)) (remove ps f.index)) over) ∙ is_table-remove ps f.index t
        ]

pub used_cells-opened : (m : Mark) (b : ℕ) (ps : List Presence) → is_table ps ≡ true → can_open m.change ≡ true → is_present ps m.range ≡ false → used_cells (presences_after m b ps) ≡ used_cells ps + m.range.len
used_cells-opened m b ps t can absent =
    let kept = kept_none m ps t absent in
    let e : presences_after m b ps ≡ insert ps (behind m.range ps) (opening m b) = rw (can, absent) (ap (presence_inserted (opening m b)) kept ∙ sym (insert_is_placed (opening m b) ps t)) in
    ap used_cells e ∙ sum_by-insert (λ (q : Presence). q.range.len) ps (behind m.range ps) (opening m b)

-- ## How many there are

pub length-kept : (m : Mark) (ps : List Presence) → length (kept_after m ps) ≤ length ps
length-kept m ps = omega (arith, length-filter_both has_count (λ p. not (has_count p)) (λ _. refl) (map (presence_after m) ps), length-map ps (presence_after m))

pub length-placed : (p : Presence) (ps : List Presence) → length (presence_inserted p ps) ≡ length ps + 1
length-placed p ps =
    let after = λ (k : Presence). is_before p.range k.range in
    let e = length-append (filter (λ k. not (is_before p.range k.range)) ps) (p ∷ filter after ps) in
    omega (arith, e, length-filter_both after (λ k. not (is_before p.range k.range)) (λ _. refl) ps)

pub length-after : (m : Mark) (b : ℕ) (ps : List Presence) → length (presences_after m b ps) ≤ length ps + 1
length-after m b ps =
    let k = length-kept m ps in
    elim (can_open m.change && not (is_present ps m.range))
    as (λ v. length (cond v (presence_inserted (opening m b) (kept_after m ps)) (kept_after m ps)) ≤ length ps + 1)
    [ true ↦ omega (arith, k, length-placed (opening m b) (kept_after m ps)) | false ↦ omega (arith, k) ]
