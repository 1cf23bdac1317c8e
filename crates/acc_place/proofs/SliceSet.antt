-- What is shown of each part of a list, where one part is set.
use Rattle.std.proofs.Common.{inl, inr, ◌≡◌, ℕ, ◌<◌, ◌≤◌, List, length, map, subst, sym, ap, ◌∙◌, arith}
use Rattle.std.specs.Prelude.{slice_index_or, slice_set}
use Rattle.std.proofs.Math.Seq.{map-set_same}
use Rattle.std.proofs.lemmas.Bool.Decides.{eqb_tells}
use Rattle.std.proofs.lemmas.List.{get_or-map, get_or-set_other, get_or-set_same, length-map, map-set}

-- it is the same where the part shows the same
pub shown_same : {X Y : Type 0} (f : X → Y) (xs : List X) (i : ℕ) (old new : X) → old ≡ slice_index_or xs i old → f new ≡ f old → map f (slice_set xs i new) ≡ map f xs
shown_same f xs i old new is same = map-set_same f xs i new old (same ∙ ap f is)

-- what is shown of one part
pub shown_at : {X Y : Type 0} (f : X → Y) (xs : List X) (i : ℕ) (old : X) (d : Y) → i < length xs → old ≡ slice_index_or xs i old → slice_index_or (map f xs) i d ≡ f old
shown_at f xs i old d low is = get_or-map f xs i old d low ∙ ap f (sym is)

pub shown_new : {X Y : Type 0} (f : X → Y) (xs : List X) (i : ℕ) (new : X) (d : Y) → i < length xs → slice_index_or (map f (slice_set xs i new)) i d ≡ f new
shown_new f xs i new d low = ap (λ ys. slice_index_or ys i d) (map-set f xs i new) ∙ get_or-set_same (map f xs) i (f new) d (omega (arith, low, length-map xs f))

-- numbers of which none falls
pub shown_more : {X : Type 0} (f : X → ℕ) (xs : List X) (i : ℕ) (old new : X) (k : ℕ) → i < length xs → old ≡ slice_index_or xs i old → f old ≤ f new
    → slice_index_or (map f xs) k 0 ≤ slice_index_or (map f (slice_set xs i new)) k 0
shown_more f xs i old new k low is more = elim (eqb_tells k i) [
  | inl here ↦ subst (λ n. slice_index_or (map f xs) n 0 ≤ slice_index_or (map f (slice_set xs i new)) n 0) (sym here.1) (omega (arith, more, shown_at f xs i old 0 low is, shown_new f xs i new 0 low))
  | inr away ↦
      let same = ap (λ ys. slice_index_or ys k 0) (map-set f xs i new) ∙ get_or-set_other (map f xs) i k (f new) 0 away.1 in
      omega (arith, same)
]
