-- Tests of an array's vectors: of some of them, and whether those of two arrays are equal.
use Rattle.std.proofs.Common.{◌≡◌, Bool, List, [], ◌∷◌, refl, ap}
use Rattle.std.proofs.lemmas.Slice.Eq.{slice_eq-Decides}
use Rattle.std.proofs.lemmas.Bool.Decides.{Decides-int_eq}
use Rattle.std.specs.Bool.{Decides}
use Rattle.std.specs.Cmp.Lexicographic.{pointwise}
use Rattle.std.specs.Ordering.{int_eq}
use Rattle.std.specs.Prelude.{ℤ, Vec, ◌||◌, ◌&&◌}
use Rattle.std.specs.List.{list_any}
use Rattle.acc_base.specs.Configurations.{rows}

pub list_any_rows : {Z : Type 0} (p : List ℤ → Bool) (arrays : List (Vec ℤ Z)) → list_any p (rows arrays) ≡ list_any (λ v. p v.items) arrays
list_any_rows p [] = refl
list_any_rows p (v ∷ arrays) = ap (λ r. p v.items || r) (list_any_rows p arrays)

pointwise_rows : {Z : Type 0} (e : List ℤ → List ℤ → Bool) (arrays others : List (Vec ℤ Z)) → pointwise (λ v w. e v.items w.items) arrays others ≡ pointwise e (rows arrays) (rows others)
pointwise_rows e [] [] = refl
pointwise_rows e [] (w ∷ others) = refl
pointwise_rows e (v ∷ arrays) [] = refl
pointwise_rows e (v ∷ arrays) (w ∷ others) = ap (λ r. e v.items w.items && r) (pointwise_rows e arrays others)

cells_decide : (xs ys : List ℤ) → Decides (pointwise int_eq xs ys) (xs ≡ ys)
cells_decide xs ys = slice_eq-Decides Decides-int_eq xs ys _ refl

-- `==` of the vectors
pub rows_decide : {Z : Type 0} (arrays others : List (Vec ℤ Z)) → Decides (pointwise (λ v w. pointwise int_eq v.items w.items) arrays others) (rows arrays ≡ rows others)
rows_decide arrays others = slice_eq-Decides cells_decide (rows arrays) (rows others) _ (pointwise_rows (pointwise int_eq) arrays others)
