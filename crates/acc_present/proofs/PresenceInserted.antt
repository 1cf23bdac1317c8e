-- A presence that is set among a table's, at the index behind its first cell.
use Rattle.std.proofs.Common.{◌≡◌, ◌<◌, true, false, cond, List, [], ◌∷◌, refl, ap, ◌∙◌, arith, inl, inr}
use Rattle.std.specs.Prelude.{not, filter, insert, nat_lt}
use Rattle.std.proofs.lemmas.Bool.{cases_Bool, and_parts, and_from, lt-ltb, or_parts}
use Rattle.std.proofs.lemmas.Bool.Decides.{nat_tests}
use Rattle.acc_base.specs.declared.range.Range.{Range}
use Rattle.acc_base.specs.Ranges.{range_overlaps}
use Rattle.acc_present.specs.Lifetimes.{is_before}
use Rattle.acc_present.specs.Presences.{Presence, overlaps_any}
use Rattle.acc_present.specs.Tables.{has_count, presence_inserted, is_table, ends_before, ends_before_all}
use Rattle.acc_present.proofs.TableOrder.{table_parts, table_from, before_through, ends_through_all}
use Rattle.acc_present.proofs.Holder.{behind-hit, behind-miss}
use Rattle.acc_present.specs.inner.Keys.{behind}

abbrev pub inserted : Presence → List Presence → List Presence
inserted p [] = p ∷ []
inserted p (x ∷ xs) = cond (is_before p.range x.range) (p ∷ x ∷ xs) (x ∷ inserted p xs)

pub insert_is : (p : Presence) (ps : List Presence) → insert ps (behind p.range ps) p ≡ inserted p ps
insert_is p [] = refl
insert_is p (x ∷ xs) = elim (cases_Bool (is_before p.range x.range)) [
  | inl hit ↦ rw (behind-hit p.range x xs hit, hit) refl
  | inr miss ↦ rw (behind-miss p.range x xs miss, miss) (ap (λ r. x ∷ r) (insert_is p xs))
]

all_behind : (p : Presence) (a : Range) (ps : List Presence) → is_before p.range a ≡ true → ends_before_all a ps ≡ true
    → (filter (λ k. not (is_before p.range k.range)) ps ≡ []) × (filter (λ k. is_before p.range k.range) ps ≡ ps)
all_behind p a [] h k = (refl, refl)
all_behind p a (x ∷ xs) h k =
    let parts = and_parts (ends_before a x.range) (ends_before_all a xs) k in
    let b = before_through p.range a x.range h parts.0 in
    let ih = all_behind p a xs h parts.1 in
    (rw b ih.0, rw b (ap (λ r. x ∷ r) ih.1))

pub inserted_is_placed : (p : Presence) (ps : List Presence) → is_table ps ≡ true → inserted p ps ≡ presence_inserted p ps
inserted_is_placed p [] t = refl
inserted_is_placed p (x ∷ xs) t =
    let parts = table_parts x xs t in
    elim (cases_Bool (is_before p.range x.range)) [
      | inl hit ↦ (let a = all_behind p x.range xs hit parts.first in rw (hit, a.0, a.1) refl)
      | inr miss ↦ rw miss (ap (λ r. x ∷ r) (inserted_is_placed p xs parts.others))
    ]

pub insert_is_placed : (p : Presence) (ps : List Presence) → is_table ps ≡ true → insert ps (behind p.range ps) p ≡ presence_inserted p ps
insert_is_placed p ps t = insert_is p ps ∙ inserted_is_placed p ps t

ends_before_inserted : (a : Range) (p : Presence) (ps : List Presence) → ends_before a p.range ≡ true → ends_before_all a ps ≡ true → ends_before_all a (inserted p ps) ≡ true
ends_before_inserted a p [] h k = and_from (ends_before a p.range) true h refl
ends_before_inserted a p (x ∷ xs) h k =
    let parts = and_parts (ends_before a x.range) (ends_before_all a xs) k in
    elim (is_before p.range x.range) as (λ v. ends_before_all a (cond v (p ∷ x ∷ xs) (x ∷ inserted p xs)) ≡ true) [
      | true ↦ and_from (ends_before a p.range) (ends_before_all a (x ∷ xs)) h k
      | false ↦ and_from (ends_before a x.range) (ends_before_all a (inserted p xs)) parts.0 (ends_before_inserted a p xs h parts.1)
    ]

apart_after : (r a : Range) → is_before r a ≡ true → 0 < r.len → nat_lt 0 a.len ≡ true → range_overlaps a r ≡ false → ends_before r a ≡ true
unfolding range_overlaps is_before
apart_after r a h cells some over = grind (arith, nat_tests, h, cells, some, over)

apart_before : (r a : Range) → is_before r a ≡ false → 0 < r.len → nat_lt 0 a.len ≡ true → range_overlaps a r ≡ false → ends_before a r ≡ true
unfolding range_overlaps is_before
apart_before r a h cells some over = grind (arith, nat_tests, h, cells, some, over)

is_table-inserted : (p : Presence) (ps : List Presence) → is_table ps ≡ true → 0 < p.range.len → has_count p ≡ true → overlaps_any ps p.range ≡ false → is_table (inserted p ps) ≡ true
is_table-inserted p [] t cells counted over = table_from p [] (record { cells = lt-ltb 0 p.range.len cells; counted = counted; first = refl; others = refl })
is_table-inserted p (x ∷ xs) t cells counted over =
    let parts = table_parts x xs t in
    let apart = or_parts (range_overlaps x.range p.range) (overlaps_any xs p.range) over in
    elim (cases_Bool (is_before p.range x.range)) [
      | inl hit ↦
          let a = apart_after p.range x.range hit cells parts.cells apart.0 in
          let all = and_from (ends_before p.range x.range) (ends_before_all p.range xs) a (ends_through_all p.range x.range xs a parts.first) in
          rw hit (table_from p (x ∷ xs) (record { cells = lt-ltb 0 p.range.len cells; counted = counted; first = all; others = t }))
      | inr miss ↦
          let b = apart_before p.range x.range miss cells parts.cells apart.0 in
          rw miss (table_from x (inserted p xs) (record { cells = parts.cells; counted = parts.counted; first = ends_before_inserted x.range p xs b parts.first; others = is_table-inserted p xs parts.others cells counted apart.1 }))
    ]

pub is_table-insert : (p : Presence) (ps : List Presence) → is_table ps ≡ true → 0 < p.range.len → has_count p ≡ true → overlaps_any ps p.range ≡ false → is_table (insert ps (behind p.range ps) p) ≡ true
is_table-insert p ps t cells counted over = ap is_table (insert_is p ps) ∙ is_table-inserted p ps t cells counted over
