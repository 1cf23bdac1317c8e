-- What lives, and what is counted, after one more mark.
use Rattle.std.proofs.Common.{inl, inr, ◌≡◌, ◌-◌, ◌<◌, true, false, List, [], ◌∷◌, length, refl, sym, ◌∙◌, arith}
use Rattle.std.proofs.lemmas.Bool.{cases_Bool, and_parts, and_from}
use Rattle.std.proofs.lemmas.List.{length-take}
use Rattle.acc_base.specs.declared.range.Range.{Range}
use Rattle.acc_base.specs.Ranges.{range_contains}
use Rattle.acc_present.specs.Marks.{Mark, inside}
use Rattle.acc_present.specs.Lifetimes.{Lifetime, lives, marks_since, stays_counted, is_counted}
use Rattle.acc_present.proofs.Presences.{marks_since-more}

-- what lives after a mark lived before it
pub lives_before : (m : Mark) (ms : List Mark) (l : Lifetime) → l.since < length ms → lives (m ∷ ms) l ≡ true → lives ms l ≡ true
lives_before m ms l h is =
    let e = marks_since-more m ms l (omega arith) in
    (and_parts (is_counted l.range (m ∷ marks_since ms l)) (lives ms l) (rw e at is)).1

-- what stays counted over some marks is counted after the latest
is_counted_last : (r : Range) (ms : List Mark) → 0 < length ms → stays_counted r ms ≡ true → is_counted r ms ≡ true
is_counted_last r [] some h = absurd (omega arith)
is_counted_last r (m ∷ ms) some h = (and_parts (is_counted r (m ∷ ms)) (stays_counted r ms) h).0

-- a mark outside a range leaves it counted, or not, as it was
is_counted_outside : (r : Range) (m : Mark) (ms : List Mark) → inside r m ≡ false → is_counted r (m ∷ ms) ≡ is_counted r ms
is_counted_outside r m ms h = rw h refl

-- a mark that ends a lifetime is inside its range
pub ended_inside : (m : Mark) (ms : List Mark) (l : Lifetime) → l.since < length ms → lives ms l ≡ true → lives (m ∷ ms) l ≡ false → range_contains l.range m.range ≡ true
ended_inside m ms l h was ended = elim (cases_Bool (inside l.range m)) [
  | inl yes_in ↦ yes_in
  | inr out ↦
      let e = marks_since-more m ms l (omega arith) in
      let some : 0 < length (marks_since ms l) = omega (arith, length-take (length ms - l.since) ms) in
      let counted = is_counted_last l.range (marks_since ms l) some was in
      let still : is_counted l.range (m ∷ marks_since ms l) ≡ true = is_counted_outside l.range m (marks_since ms l) out ∙ counted in
      let lived : lives (m ∷ ms) l ≡ true = rw e (and_from (is_counted l.range (m ∷ marks_since ms l)) (lives ms l) still was) in
      let f : false ≡ true = sym ended ∙ lived in cc
]
