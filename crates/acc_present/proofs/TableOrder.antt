-- A table's presences are in order and apart.
use Rattle.std.proofs.Common.{◌≡◌, ℕ, zero, suc, ◌<◌, true, List, [], ◌∷◌, length, set, get_or, refl, ap, ◌∙◌, arith}
use Rattle.std.specs.Prelude.{◌&&◌, remove, nat_lt}
use Rattle.std.proofs.lemmas.Bool.{and_parts, and_from}
use Rattle.std.proofs.lemmas.Bool.Decides.{nat_tests}
use Rattle.acc_base.specs.declared.range.Range.{Range}
use Rattle.acc_present.specs.Lifetimes.{is_before}
use Rattle.acc_present.specs.Presences.{Presence}
use Rattle.acc_present.specs.Tables.{has_count, is_table, ends_before, ends_before_all}

pub record TableParts (p : Presence) (ps : List Presence) : Type 0 where
  pub cells : nat_lt 0 p.range.len ≡ true
  pub counted : has_count p ≡ true
  pub first : ends_before_all p.range ps ≡ true
  pub others : is_table ps ≡ true

pub table_parts : (p : Presence) (ps : List Presence) → is_table (p ∷ ps) ≡ true → TableParts p ps
table_parts p ps h =
    let a = and_parts (nat_lt 0 p.range.len && has_count p) (ends_before_all p.range ps && is_table ps) h in
    let b = and_parts (nat_lt 0 p.range.len) (has_count p) a.0 in
    let c = and_parts (ends_before_all p.range ps) (is_table ps) a.1 in
    record { cells = b.0; counted = b.1; first = c.0; others = c.1 }

pub table_from : (p : Presence) (ps : List Presence) → TableParts p ps → is_table (p ∷ ps) ≡ true
table_from p ps h =
    and_from (nat_lt 0 p.range.len && has_count p) (ends_before_all p.range ps && is_table ps)
    (and_from (nat_lt 0 p.range.len) (has_count p) h.cells h.counted) (and_from (ends_before_all p.range ps) (is_table ps) h.first h.others)

pub ends_before_at : (a : Range) (ps : List Presence) (i : ℕ) (x : Presence) → ends_before_all a ps ≡ true → i < length ps → x ≡ get_or ps i x → ends_before a x.range ≡ true
ends_before_at a [] i x h low is = absurd (omega arith)
ends_before_at a (p ∷ ps) zero x h low is = rw is (and_parts (ends_before a p.range) (ends_before_all a ps) h).0
ends_before_at a (p ∷ ps) (suc i) x h low is = ends_before_at a ps i x (and_parts (ends_before a p.range) (ends_before_all a ps) h).1 (omega arith) is

pub ends_through : (a b c : Range) → ends_before a b ≡ true → ends_before b c ≡ true → ends_before a c ≡ true
ends_through a b c h k = grind (arith, nat_tests, h, k)

pub ends_through_all : (a b : Range) (ps : List Presence) → ends_before a b ≡ true → ends_before_all b ps ≡ true → ends_before_all a ps ≡ true
ends_through_all a b [] h k = refl
ends_through_all a b (p ∷ ps) h k =
    let parts = and_parts (ends_before b p.range) (ends_before_all b ps) k in
    and_from (ends_before a p.range) (ends_before_all a ps) (ends_through a b p.range h parts.0) (ends_through_all a b ps h parts.1)

-- what begins before a range begins before all that stands behind that range
pub before_through : (r a b : Range) → is_before r a ≡ true → ends_before a b ≡ true → is_before r b ≡ true
unfolding is_before
before_through r a b h k = grind (arith, nat_tests, h, k)

ends_before_all-set : (a : Range) (ps : List Presence) (i : ℕ) (y : Presence) → ends_before_all a ps ≡ true → ends_before a y.range ≡ true → ends_before_all a (set ps i y) ≡ true
ends_before_all-set a [] i y h e = refl
ends_before_all-set a (p ∷ ps) zero y h e =
    let parts = and_parts (ends_before a p.range) (ends_before_all a ps) h in
    and_from (ends_before a y.range) (ends_before_all a ps) e parts.1
ends_before_all-set a (p ∷ ps) (suc i) y h e =
    let parts = and_parts (ends_before a p.range) (ends_before_all a ps) h in
    and_from (ends_before a p.range) (ends_before_all a (set ps i y)) parts.0 (ends_before_all-set a ps i y parts.1 e)

ends_before_all-remove : (a : Range) (ps : List Presence) (i : ℕ) → ends_before_all a ps ≡ true → ends_before_all a (remove ps i) ≡ true
ends_before_all-remove a [] zero h = refl
ends_before_all-remove a [] (suc i) h = refl
ends_before_all-remove a (p ∷ ps) zero h = (and_parts (ends_before a p.range) (ends_before_all a ps) h).1
ends_before_all-remove a (p ∷ ps) (suc i) h =
    let parts = and_parts (ends_before a p.range) (ends_before_all a ps) h in
    and_from (ends_before a p.range) (ends_before_all a (remove ps i)) parts.0 (ends_before_all-remove a ps i parts.1)

pub is_table-remove : (ps : List Presence) (i : ℕ) → is_table ps ≡ true → is_table (remove ps i) ≡ true
is_table-remove [] zero t = refl
is_table-remove [] (suc i) t = refl
is_table-remove (p ∷ ps) zero t = (table_parts p ps t).others
is_table-remove (p ∷ ps) (suc i) t =
    let parts = table_parts p ps t in
    table_from p (remove ps i) (record { cells = parts.cells; counted = parts.counted; first = ends_before_all-remove p.range ps i parts.first; others = is_table-remove ps i parts.others })

pub is_table-set : (ps : List Presence) (i : ℕ) (x y : Presence) → is_table ps ≡ true → i < length ps → x ≡ get_or ps i x → y.range ≡ x.range → has_count y ≡ true → is_table (set ps i y) ≡ true
is_table-set [] i x y t low is same counted = absurd (omega arith)
is_table-set (p ∷ ps) zero x y t low is same counted =
    let parts = table_parts p ps t in
    let r : y.range ≡ p.range = same ∙ ap (λ (z : Presence). z.range) is in
    table_from y ps (record { cells = rw r parts.cells; counted = counted; first = rw r parts.first; others = parts.others })
is_table-set (p ∷ ps) (suc i) x y t low is same counted =
    let parts = table_parts p ps t in
    let at = ends_before_at p.range ps i x parts.first (omega arith) is in
    table_from p (set ps i y) (record { cells = parts.cells; counted = parts.counted; first = ends_before_all-set p.range ps i y parts.first (rw same at); others = is_table-set ps i x y parts.others (omega arith) is same counted })
