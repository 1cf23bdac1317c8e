-- A node's value changes, and nothing else does.
use Rattle.std.proofs.Common.{◌≡◌, ℕ, zero, suc, refl, sym, ap, subst, ◌∙◌, List, [], ◌∷◌, slice_get, slice_set, Option, Some, None}
use mathlib.Core.Logic.{inl, ◌⊎◌}
use denote.RawPtr.{Ptr}
use Rattle.acc_raw.specs.declared.link.Link.{Link}
use Rattle.acc_raw.specs.declared.link.Place.{Place}
use Rattle.acc_raw.specs.inner.Links.{Placed}
use Rattle.acc_raw.specs.inner.Wired.{place, place_at, last_place, IsWired, IsWiredChain, values}

-- what ends as two functions say that agree everywhere
pub ends_same : {N A B C : Type 0} {n : N} {F G : A → B} → ((w : A) → F w ≡ G w) → ◌≡◌ {A = (N × (A → B)) ⊎ C} (inl (n, F)) (inl (n, G))
ends_same {n = n} e = λ j. inl (n, λ w. e w j)

-- the value of the node at p, which held l, is w
module _ {X : Type 0} (p : Ptr) (l : Link X) (w : X) where
  abbrev pub other : Placed X
  other = (p, record l { value = w })

  pub values-other : (ps : List (Placed X)) (i : ℕ) → slice_get ps i ≡ Some (p, l) → values (slice_set ps i other) ≡ slice_set (values ps) i w
  values-other [] i e = refl
  values-other (q ∷ ps) zero e = refl
  values-other (q ∷ ps) (suc i) e = ap (λ vs. q.1.value ∷ vs) (values-other ps i e)

  place_at-other : (ps : List (Placed X)) (i k : ℕ) → slice_get ps i ≡ Some (p, l) → place_at (slice_set ps i other) k ≡ place_at ps k
  place_at-other [] i k e = refl
  place_at-other (q ∷ ps) zero zero e = let same : q ≡ (p, l) = cc in ap (λ (r : Placed X). Some (place r.0)) (sym same)
  place_at-other (q ∷ ps) zero (suc k) e = refl
  place_at-other (q ∷ ps) (suc i) zero e = refl
  place_at-other (q ∷ ps) (suc i) (suc k) e = place_at-other ps i k e

  IsWired-other : (a : Option Place) (ps : List (Placed X)) (i : ℕ) → slice_get ps i ≡ Some (p, l) → IsWired a ps → IsWired a (slice_set ps i other)
  IsWired-other a [] i e w = tt
  IsWired-other a (q ∷ ps) zero e w =
      let same : q ≡ (p, l) = cc in
      (ap (λ (r : Placed X). r.1.prev) (sym same) ∙ w.0, ap (λ (r : Placed X). r.1.next) (sym same) ∙ w.1, subst (λ (r : Placed X). IsWired (Some (place r.0)) ps) same w.2)
  IsWired-other a (q ∷ ps) (suc i) e w = (w.0, w.1 ∙ sym (place_at-other ps i 0 e), IsWired-other (Some (place q.0)) ps i e w.2)

  last-other : (a : Option Place) (ps : List (Placed X)) (i : ℕ) → slice_get ps i ≡ Some (p, l) → last_place a (slice_set ps i other) ≡ last_place a ps
  last-other a [] i e = refl
  last-other a (q ∷ ps) zero e = let same : q ≡ (p, l) = cc in ap (λ (r : Placed X). last_place (Some (place r.0)) ps) (sym same)
  last-other a (q ∷ ps) (suc i) e = last-other (Some (place q.0)) ps i e

  -- the nodes are linked as before
  pub wired-other : {h t : Option Place} (ps : List (Placed X)) (i : ℕ) → slice_get ps i ≡ Some (p, l) → IsWiredChain h t ps → IsWiredChain h t (slice_set ps i other)
  wired-other ps i e c = record { wired = IsWired-other None ps i e c.wired; first = c.first ∙ sym (place_at-other ps i 0 e); last = c.last ∙ sym (last-other None ps i e) }
