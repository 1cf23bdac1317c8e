-- A node names another neighbour than before.
use Rattle.std.proofs.Common.{◌≡◌, ℕ, zero, suc, refl, sym, ap, List, [], ◌∷◌, map, slice_get, slice_set, Option, Some, None}
use denote.RawPtr.{Ptr}
use Rattle.acc_raw.specs.declared.link.Link.{Link}
use Rattle.acc_raw.specs.declared.link.Place.{Place}
use Rattle.acc_raw.specs.inner.Links.{Placed}
use Rattle.acc_raw.specs.inner.Wired.{place_at, place_before, with_next, with_prev, next_set, prev_set}

module _ {X : Type 0} where
  pub prev_set_is : (ps : List (Placed X)) (i : ℕ) (p : Ptr) (x : Link X) (a : Option Place) → slice_get ps i ≡ Some (p, x) → slice_set ps i (with_prev a (p, x)) ≡ prev_set ps i a
  prev_set_is [] i p x a e = refl
  prev_set_is (q ∷ ps) zero p x a e = let same : q ≡ (p, x) = cc in ap (λ r. with_prev a r ∷ ps) (sym same)
  prev_set_is (q ∷ ps) (suc i) p x a e = ap (λ l. q ∷ l) (prev_set_is ps i p x a e)

  pub prev_set_none : (ps : List (Placed X)) (i : ℕ) (a : Option Place) → None ≡ place_at ps i → ps ≡ prev_set ps i a
  prev_set_none [] i a e = refl
  prev_set_none (q ∷ ps) zero a e = cc
  prev_set_none (q ∷ ps) (suc i) a e = ap (λ l. q ∷ l) (prev_set_none ps i a e)

  pub next_set_is : (ps : List (Placed X)) (j : ℕ) (p : Ptr) (x : Link X) (a : Option Place) → slice_get ps j ≡ Some (p, x) → slice_set ps j (with_next a (p, x)) ≡ next_set ps (suc j) a
  next_set_is [] j p x a e = refl
  next_set_is (q ∷ ps) zero p x a e = let same : q ≡ (p, x) = cc in ap (λ r. with_next a r ∷ ps) (sym same)
  next_set_is (q ∷ ps) (suc j) p x a e = ap (λ l. q ∷ l) (next_set_is ps j p x a e)

  pub next_set_none : (ps : List (Placed X)) (i : ℕ) (a : Option Place) → None ≡ place_before None ps i → ps ≡ next_set ps i a
  next_set_none [] i a e = refl
  next_set_none (q ∷ ps) zero a e = refl
  next_set_none (q ∷ ps) (suc zero) a e = cc
  next_set_none (q ∷ ps) (suc (suc i)) a e = ap (λ l. q ∷ l) (next_set_none ps (suc i) a e)

  pub place_at-next_set : (ps : List (Placed X)) (i : ℕ) (a : Option Place) (k : ℕ) → place_at (next_set ps i a) k ≡ place_at ps k
  place_at-next_set [] i a k = refl
  place_at-next_set (q ∷ ps) zero a k = refl
  place_at-next_set (q ∷ ps) (suc zero) a zero = refl
  place_at-next_set (q ∷ ps) (suc zero) a (suc k) = refl
  place_at-next_set (q ∷ ps) (suc (suc i)) a zero = refl
  place_at-next_set (q ∷ ps) (suc (suc i)) a (suc k) = place_at-next_set ps (suc i) a k

-- what nodes show of where they lie and of their values
module _ {X Y : Type 0} (f : Ptr → X → Y) where
  abbrev pub shown : List (Placed X) → List Y
  shown ps = map (λ p. f p.0 p.1.value) ps

  pub shown-next_set : (ps : List (Placed X)) (i : ℕ) (a : Option Place) → shown (next_set ps i a) ≡ shown ps
  shown-next_set [] i a = refl
  shown-next_set (q ∷ ps) zero a = refl
  shown-next_set (q ∷ ps) (suc zero) a = refl
  shown-next_set (q ∷ ps) (suc (suc i)) a = ap (λ ys. f q.0 q.1.value ∷ ys) (shown-next_set ps (suc i) a)

  pub shown-prev_set : (ps : List (Placed X)) (i : ℕ) (a : Option Place) → shown (prev_set ps i a) ≡ shown ps
  shown-prev_set [] i a = refl
  shown-prev_set (q ∷ ps) zero a = refl
  shown-prev_set (q ∷ ps) (suc i) a = ap (λ ys. f q.0 q.1.value ∷ ys) (shown-prev_set ps i a)
