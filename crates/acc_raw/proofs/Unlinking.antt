-- A node goes from among the others.
use Rattle.std.proofs.Common.{◌≡◌, ℕ, ◌<◌, zero, suc, refl, sym, ap, ◌∙◌, List, [], ◌∷◌, length, remove, slice_get, Option, Some, None, arith}
use Rattle.std.proofs.lemmas.Option.{slice_get_within}
use denote.RawPtr.{Ptr}
use Rattle.acc_raw.specs.declared.link.Link.{Link}
use Rattle.acc_raw.specs.declared.link.Place.{Place}
use Rattle.acc_raw.specs.inner.Links.{Placed, without}
use Rattle.acc_raw.specs.inner.Wired.{place, place_at, place_before, last_place, next_set, IsWired, IsWiredChain, unspliced, values, end_after}
use Rattle.acc_raw.proofs.Linking.{end_stays}
use Rattle.acc_raw.proofs.Naming.{shown, shown-next_set, shown-prev_set}

module _ {X : Type 0} where
  below-without : (ps : List (Placed X)) (i j : ℕ) → j < i → i < length ps → place_at (without ps i) j ≡ place_at ps j
  below-without [] i j lt le = absurd (omega arith)
  below-without (q ∷ ps) zero j lt le = absurd (omega arith)
  below-without (q ∷ ps) (suc i) zero lt le = refl
  below-without (q ∷ ps) (suc i) (suc j) lt le = below-without ps i j (omega arith) (omega arith)

  pub before-without : (ps : List (Placed X)) (i : ℕ) → i < length ps → place_before None (without ps i) i ≡ place_before None ps i
  before-without ps zero le = refl
  before-without ps (suc i) le = below-without ps (suc i) i (omega arith) le

  pub after-without : (ps : List (Placed X)) (i : ℕ) → i < length ps → place_at (without ps i) i ≡ place_at ps (suc i)
  after-without [] i le = absurd (omega arith)
  after-without (q ∷ ps) zero le = refl
  after-without (q ∷ ps) (suc i) le = after-without ps i (omega arith)

  shift : (q : Placed X) (ps : List (Placed X)) (i : ℕ) → place_before (Some (place q.0)) ps i ≡ place_at (q ∷ ps) i
  shift q ps zero = refl
  shift q ps (suc i) = refl

  -- a node names its neighbours
  pub wired_prev : (a : Option Place) (ps : List (Placed X)) (i : ℕ) (p : Ptr) (l : Link X) → IsWired a ps → slice_get ps i ≡ Some (p, l) → l.prev ≡ place_before a ps i
  wired_prev a [] i p l w e = cc
  wired_prev a (q ∷ ps) zero p l w e = let same : q ≡ (p, l) = cc in ap (λ (r : Placed X). r.1.prev) (sym same) ∙ w.0
  wired_prev a (q ∷ ps) (suc i) p l w e = wired_prev (Some (place q.0)) ps i p l w.2 e ∙ shift q ps i

  pub wired_next : (a : Option Place) (ps : List (Placed X)) (i : ℕ) (p : Ptr) (l : Link X) → IsWired a ps → slice_get ps i ≡ Some (p, l) → l.next ≡ place_at ps (suc i)
  wired_next a [] i p l w e = cc
  wired_next a (q ∷ ps) zero p l w e = let same : q ≡ (p, l) = cc in ap (λ (r : Placed X). r.1.next) (sym same) ∙ w.1
  wired_next a (q ∷ ps) (suc i) p l w e = wired_next (Some (place q.0)) ps i p l w.2 e

  first-unspliced : (r : Placed X) (ps : List (Placed X)) (i : ℕ) (l : Link X) → Some (place r.0) ≡ place_at (unspliced (r ∷ ps) (suc i) l) 0
  first-unspliced r ps zero l = refl
  first-unspliced r ps (suc i) l = refl

  pub IsWired-unspliced : (a : Option Place) (ps : List (Placed X)) (i : ℕ) (p : Ptr) (l : Link X) → IsWired a ps → slice_get ps i ≡ Some (p, l) → IsWired a (unspliced ps i l)
  IsWired-unspliced a [] i p l w e = cc
  IsWired-unspliced a (q ∷ []) zero p l w e = tt
  IsWired-unspliced a (q ∷ r ∷ ps) zero p l w e = let same : q ≡ (p, l) = cc in (ap (λ (r : Placed X). r.1.prev) (sym same) ∙ w.0, w.2.1, w.2.2)
  IsWired-unspliced a (q ∷ []) (suc i) p l w e = cc
  IsWired-unspliced a (q ∷ r ∷ []) (suc zero) p l w e = let same : r ≡ (p, l) = cc in (w.0, ap (λ (r : Placed X). r.1.next) (sym same) ∙ w.2.1, tt)
  IsWired-unspliced a (q ∷ r ∷ s ∷ ps) (suc zero) p l w e =
      let same : r ≡ (p, l) = cc in (w.0, ap (λ (r : Placed X). r.1.next) (sym same) ∙ w.2.1, (ap (λ (r : Placed X). r.1.prev) (sym same) ∙ w.2.0, w.2.2.1, w.2.2.2))
  IsWired-unspliced a (q ∷ r ∷ ps) (suc (suc i)) p l w e =
      (w.0, w.1 ∙ first-unspliced r ps i l, IsWired-unspliced (Some (place q.0)) (r ∷ ps) (suc i) p l w.2 e)

  next_first : (ps : List (Placed X)) (p : Ptr) (l : Link X) → slice_get ps 0 ≡ Some (p, l) → place_at ps 1 ≡ place_at (unspliced ps 0 l) 0
  next_first [] p l e = cc
  next_first (q ∷ []) p l e = refl
  next_first (q ∷ r ∷ ps) p l e = refl

  first-out : (ps : List (Placed X)) (i : ℕ) (p : Ptr) (l : Link X) (h : Option Place) → h ≡ place_at ps 0 → slice_get ps i ≡ Some (p, l) → l.next ≡ place_at ps (suc i)
      → end_after (place_before None ps i) l.next h ≡ place_at (unspliced ps i l) 0
  first-out ps zero p l h e g q = q ∙ next_first ps p l g
  first-out [] (suc i) p l h e g q = cc
  first-out (r ∷ ps) (suc i) p l h e g q = end_stays (r ∷ ps) i l.next h (omega (arith, slice_get_within (r ∷ ps) (suc i) (p, l) g)) ∙ e ∙ first-unspliced r ps i l

  last-out : (a : Option Place) (ps : List (Placed X)) (i : ℕ) (p : Ptr) (l : Link X) (t : Option Place) → t ≡ last_place a ps → slice_get ps i ≡ Some (p, l) → l.prev ≡ place_before a ps i
      → end_after (place_at ps (suc i)) l.prev t ≡ last_place a (unspliced ps i l)
  last-out a [] i p l t e g q = cc
  last-out a (r ∷ []) zero p l t e g q = q
  last-out a (r ∷ s ∷ ps) zero p l t e g q = e
  last-out a (r ∷ []) (suc i) p l t e g q = cc
  last-out a (r ∷ s ∷ []) (suc zero) p l t e g q = q
  last-out a (r ∷ s ∷ u ∷ ps) (suc zero) p l t e g q = e
  last-out a (r ∷ s ∷ ps) (suc (suc i)) p l t e g q = last-out (Some (place r.0)) (s ∷ ps) (suc i) p l t e g q

  -- a node goes from between its neighbours
  pub wired-out : {h t : Option Place} (ps : List (Placed X)) (i : ℕ) (p : Ptr) (l : Link X) → IsWiredChain h t ps → slice_get ps i ≡ Some (p, l)
      → IsWiredChain (end_after l.prev l.next h) (end_after l.next l.prev t) (unspliced ps i l)
  wired-out {h} {t} ps i p l w e =
      let a = wired_prev None ps i p l w.wired e in let b = wired_next None ps i p l w.wired e in
      record {
        wired = IsWired-unspliced None ps i p l w.wired e;
        first = ap (λ o. end_after o l.next h) a ∙ first-out ps i p l h w.first e b;
        last = ap (λ o. end_after o l.prev t) b ∙ last-out None ps i p l t w.last e a;
      }

  pub values-front : (ps : List (Placed X)) (p : Ptr) (l : Link X) → slice_get ps 0 ≡ Some (p, l) → values ps ≡ l.value ∷ values (unspliced ps 0 l)
  values-front [] p l e = cc
  values-front (q ∷ []) p l e = let same : q ≡ (p, l) = cc in ap (λ (r : Placed X). r.1.value ∷ []) same
  values-front (q ∷ r ∷ ps) p l e = let same : q ≡ (p, l) = cc in ap (λ (s : Placed X). s.1.value ∷ values (r ∷ ps)) same

module _ {X Y : Type 0} (f : Ptr → X → Y) where
  shown-without : (ps : List (Placed X)) (i : ℕ) → shown f (without ps i) ≡ remove (shown f ps) i
  shown-without [] zero = refl
  shown-without [] (suc i) = refl
  shown-without (q ∷ ps) zero = refl
  shown-without (q ∷ ps) (suc i) = ap (λ ys. f q.0 q.1.value ∷ ys) (shown-without ps i)

  -- what all show lacks that of the node that went
  pub shown-unspliced : (ps : List (Placed X)) (i : ℕ) (l : Link X) → shown f (unspliced ps i l) ≡ remove (shown f ps) i
  shown-unspliced ps i l =
      shown-prev_set f (next_set (without ps i) i l.next) i l.prev ∙ shown-next_set f (without ps i) i l.next ∙ shown-without ps i
