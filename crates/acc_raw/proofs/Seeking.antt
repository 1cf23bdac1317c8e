-- A way along the nodes: what is left of them, and where the first is that passes a test.
use Rattle.std.proofs.Common.{◌≡◌, ℕ, ◌+◌, ◌≤◌, zero, suc, Bool, true, false, not, cond, refl, sym, ap, subst, ◌∙◌, List, [], ◌∷◌, length, drop, slice_get, Some, None}
use Rattle.std.specs.List.{position_or_len}
use denote.RawPtr.{Ptr}
use Rattle.acc_raw.specs.declared.link.Link.{Link}
use Rattle.acc_raw.specs.inner.Links.{Placed}
use Rattle.acc_raw.specs.inner.Wired.{place_at, values}
use Rattle.acc_raw.proofs.Places.{end_at}

module _ {X : Type 0} where
  -- what is left at a node begins with its value, and nothing is left behind all
  pub drop-at : (ps : List (Placed X)) (n : ℕ) (p : Ptr) (l : Link X) → slice_get ps n ≡ Some (p, l) → drop n (values ps) ≡ l.value ∷ drop (suc n) (values ps)
  drop-at [] n p l e = cc
  drop-at (q ∷ ps) zero p l e = let same : q ≡ (p, l) = cc in ap (λ (r : Placed X). r.1.value ∷ values ps) same
  drop-at (q ∷ ps) (suc n) p l e = drop-at ps n p l e

  drop-all : (ps : List (Placed X)) → drop (length ps) (values ps) ≡ []
  drop-all [] = refl
  drop-all (q ∷ ps) = drop-all ps

  pub drop-end : (ps : List (Placed X)) (n : ℕ) → n ≤ length ps → place_at ps n ≡ None → drop n (values ps) ≡ []
  drop-end ps n le e = ap (λ k. drop k (values ps)) (end_at ps n le e) ∙ drop-all ps

  module _ (f : X → Bool) where
    abbrev pub left : List (Placed X) → ℕ → ℕ
    left ps n = position_or_len f (drop n (values ps))

    pub left-here : (ps : List (Placed X)) (n : ℕ) (p : Ptr) (l : Link X) → slice_get ps n ≡ Some (p, l) → f l.value ≡ true → left ps n ≡ 0
    left-here [] n p l e y = cc
    left-here (q ∷ ps) zero p l e y =
        let same : q ≡ (p, l) = cc in
        ap (λ (r : Placed X). cond (not (f r.1.value)) (1 + position_or_len f (values ps)) 0) same ∙ ap (λ b. cond (not b) (1 + position_or_len f (values ps)) 0) y
    left-here (q ∷ ps) (suc n) p l e y = left-here ps n p l e y

    pub left-past : (ps : List (Placed X)) (n : ℕ) (p : Ptr) (l : Link X) → slice_get ps n ≡ Some (p, l) → f l.value ≡ false → left ps n ≡ 1 + left ps (suc n)
    left-past [] n p l e y = cc
    left-past (q ∷ ps) zero p l e y =
        let same : q ≡ (p, l) = cc in
        ap (λ (r : Placed X). cond (not (f r.1.value)) (1 + position_or_len f (values ps)) 0) same ∙ ap (λ b. cond (not b) (1 + position_or_len f (values ps)) 0) y
    left-past (q ∷ ps) (suc n) p l e y = left-past ps n p l e y

    pub left-end : (ps : List (Placed X)) (n : ℕ) → n ≡ length ps → left ps n ≡ 0
    left-end [] n e = subst (λ k. left [] k ≡ 0) (sym e) refl
    left-end (q ∷ ps) n e = subst (λ k. left (q ∷ ps) k ≡ 0) (sym e) (left-end ps (length ps) refl)
