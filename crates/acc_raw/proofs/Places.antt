-- Where nodes lie.
use Rattle.std.proofs.Common.{◌≡◌, ℕ, ◌-◌, ◌<◌, ◌≤◌, zero, suc, refl, sym, ap, subst, ◌∙◌, List, [], ◌∷◌, length, Option, Some, None, arith}
use Rattle.acc_raw.specs.declared.link.Place.{Place}
use Rattle.acc_raw.specs.inner.Links.{Placed, IsAt}
use Rattle.acc_raw.specs.inner.Wired.{place, place_at, place_before, last_place, IsWiredChain}

module _ {X : Type 0} where
  pub at_is : (ps : List (Placed X)) (i : ℕ) (p : Place) → Some p ≡ place_at ps i → IsAt ps i p.ptr
  at_is [] i p e = cc
  at_is (q ∷ ps) zero p e = let whole : p ≡ place q.0 = cc in (q.1, ap (λ (r : Place). Some (r.ptr, q.1)) (sym whole))
  at_is (q ∷ ps) (suc i) p e = at_is ps i p e

  -- a node before the i-th is the one at i - 1
  pub before_is : (ps : List (Placed X)) (i : ℕ) (p : Place) → Some p ≡ place_before None ps i → (i ≡ suc (i - 1)) × (Some p ≡ place_at ps (i - 1))
  before_is ps zero p e = cc
  before_is ps (suc i) p e = let less : suc i - 1 ≡ i = omega arith in (omega arith, subst (λ k. Some p ≡ place_at ps k) (sym less) e)

  pub some_at : (ps : List (Placed X)) (j : ℕ) → j < length ps → (r : Place) × (place_at ps j ≡ Some r)
  some_at [] j lt = absurd (omega arith)
  some_at (q ∷ ps) zero lt = (place q.0, refl)
  some_at (q ∷ ps) (suc j) lt = some_at ps j (omega arith)

  place_at-end : (ps : List (Placed X)) → place_at ps (length ps) ≡ None
  place_at-end [] = refl
  place_at-end (q ∷ ps) = place_at-end ps

  pub end_at : (ps : List (Placed X)) (n : ℕ) → n ≤ length ps → place_at ps n ≡ None → n ≡ length ps
  end_at [] n le e = omega arith
  end_at (q ∷ ps) zero le e = cc
  end_at (q ∷ ps) (suc n) le e = ap suc (end_at ps n (omega arith) e)

  last_is : (a : Option Place) (ps : List (Placed X)) → last_place a ps ≡ place_before a ps (length ps)
  last_is a [] = refl
  last_is a (q ∷ []) = refl
  last_is a (q ∷ r ∷ ps) = last_is (Some (place q.0)) (r ∷ ps)

  -- the last node lies before the end, and none lies there
  pub between_end : {h t : Option Place} (ps : List (Placed X)) → IsWiredChain h t ps → (t ≡ place_before None ps (length ps)) × (None ≡ place_at ps (length ps))
  between_end ps w = (w.last ∙ last_is None ps, sym (place_at-end ps))

  -- where no node is found, the last one comes before
  pub before_end : {h t : Option Place} (ps : List (Placed X)) (n : ℕ) → IsWiredChain h t ps → n ≤ length ps → place_at ps n ≡ None → t ≡ place_before None ps n
  before_end ps n w le e = (between_end ps w).0 ∙ ap (λ k. place_before None ps k) (sym (end_at ps n le e))

  pub none_empty : {h t : Option Place} (ps : List (Placed X)) → IsWiredChain h t ps → h ≡ None → ps ≡ []
  none_empty [] w n = refl
  none_empty (q ∷ ps) w n = let e = w.first in cc

  pub none_before_end : (ps : List (Placed X)) → place_before None ps (length ps) ≡ None → ps ≡ []
  none_before_end [] e = refl
  none_before_end (q ∷ ps) e = let s = some_at (q ∷ ps) (length ps) (omega arith) in let there = s.1 in cc
