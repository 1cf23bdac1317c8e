-- The tests of the bounds say what the sets of cells say.
use Rattle.std.proofs.Common.{◌≡◌, ◌+◌, ◌-◌, ◌≤◌, true, refl, sym, ◌∙◌, arith, inl, inr}
use Rattle.std.specs.Prelude.{IsTrue, ◌↔◌, min, max}
use Rattle.std.proofs.lemmas.Bool.{cases_eq, eq-eqb, le-leb, lt-ltb}
use Rattle.std.proofs.lemmas.Bool.Decides.{nat_tests}
use Rattle.acc_base.specs.declared.range.Range.{Range}
use Rattle.acc_base.specs.Ranges.{Includes, Meets, range_contains, range_overlaps}

pub includes_from_test : (a b : Range) → range_contains a b ≡ true → Includes a b
unfolding range_contains
includes_from_test a b h = λ array cell p. let p0 = p.0 in let p1 = p.1 in let p2 = p.2 in
    (grind (arith, nat_tests, h, p0, p1, p2), grind (arith, nat_tests, h, p0, p1, p2), grind (arith, nat_tests, h, p0, p1, p2))

-- the witnesses are the range's first and last cell
test_from_includes : (a b : Range) → Includes a b → range_contains a b ≡ true
unfolding range_contains
test_from_includes a b h = elim (cases_eq b.len 0) [
  | inl none ↦ rw (eq-eqb b.len 0 none) refl
  | inr some ↦
      let first = h b.array b.lo (refl, omega arith, omega arith) in
      let last = h b.array (b.lo + (b.len - 1)) (refl, omega arith, omega arith) in
      let same : a.array ≡ b.array = sym first.0 in
      let low : a.lo ≤ b.lo = first.1 in
      let high : b.lo + b.len ≤ a.lo + a.len = omega (arith, last.2) in
      let x = eq-eqb a.array b.array same in
      let y = le-leb a.lo b.lo low in
      let z = le-leb (b.lo + b.len) (a.lo + a.len) high in
      grind (arith, x, y, z)
]

pub contains_is_includes : (a b : Range) → IsTrue (range_contains a b) ↔ Includes a b
contains_is_includes a b = (includes_from_test a b, test_from_includes a b)

-- the witness is the first cell of the range that begins later
meets_from_test : (a b : Range) → range_overlaps a b ≡ true → Meets a b
unfolding range_overlaps
meets_from_test a b h = (
  a.array,
  max a.lo b.lo,
  (refl, grind (arith, nat_tests, h), grind (arith, nat_tests, h)),
  (grind (arith, nat_tests, h), grind (arith, nat_tests, h), grind (arith, nat_tests, h)),
)

test_from_meets : (a b : Range) → Meets a b → range_overlaps a b ≡ true
unfolding range_overlaps
test_from_meets a b h =
    let p = h.2 in let q = h.3 in
    let same : a.array ≡ b.array = sym p.0 ∙ q.0 in
    let x = eq-eqb a.array b.array same in
    let y = lt-ltb (max a.lo b.lo) (min (a.lo + a.len) (b.lo + b.len)) (omega (arith, p.1, p.2, q.1, q.2)) in
    rw (x, y) refl

pub overlaps_is_meets : (a b : Range) → IsTrue (range_overlaps a b) ↔ Meets a b
overlaps_is_meets a b = (meets_from_test a b, test_from_meets a b)
