-- What nodes show: their values.
use Rattle.std.proofs.Common.{◌≡◌, ℕ, zero, suc, refl, ap, List, [], ◌∷◌, length, slice_get, remove, Some, None}
use denote.RawPtr.{Ptr}
use Rattle.acc_raw.specs.declared.link.Link.{Link}
use Rattle.acc_raw.specs.inner.Links.{Placed}
use Rattle.acc_raw.specs.inner.Wired.{place_at, values}

-- no item is at the length
pub remove_none : {X : Type 0} (xs : List X) → xs ≡ remove xs (length xs)
remove_none [] = refl
remove_none (x ∷ xs) = ap (λ ys. x ∷ ys) (remove_none xs)

module _ {X : Type 0} where
  pub length-values : (ps : List (Placed X)) → length (values ps) ≡ length ps
  length-values [] = refl
  length-values (q ∷ ps) = ap suc (length-values ps)

  pub none_shown : (ps : List (Placed X)) → values ps ≡ [] → ps ≡ []
  none_shown [] e = refl
  none_shown (q ∷ ps) e = cc

  pub value_at : (ps : List (Placed X)) (i : ℕ) (p : Ptr) (l : Link X) → slice_get ps i ≡ Some (p, l) → slice_get (values ps) i ≡ Some l.value
  value_at [] i p l e = cc
  value_at (q ∷ ps) zero p l e = let same : q ≡ (p, l) = cc in ap (λ (r : Placed X). Some r.1.value) same
  value_at (q ∷ ps) (suc i) p l e = value_at ps i p l e

  pub none_at : (ps : List (Placed X)) (i : ℕ) → place_at ps i ≡ None → slice_get (values ps) i ≡ None
  none_at [] i e = refl
  none_at (q ∷ ps) zero e = cc
  none_at (q ∷ ps) (suc i) e = none_at ps i e
