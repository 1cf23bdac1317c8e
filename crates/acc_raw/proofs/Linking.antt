-- A node comes among the others.
use Rattle.std.proofs.Common.{◌≡◌, ℕ, ◌<◌, ◌≤◌, zero, suc, refl, sym, ap, ◌∙◌, List, [], ◌∷◌, ◌++◌, length, insert, Option, Some, None, arith}
use denote.RawPtr.{Ptr}
use Rattle.acc_raw.specs.declared.link.Place.{Place}
use Rattle.acc_raw.specs.inner.Links.{Placed, with_at}
use Rattle.acc_raw.specs.inner.Wired.{place, place_at, place_before, last_place, next_set, IsWired, IsWiredChain, spliced, values, end_after}
use Rattle.acc_raw.proofs.Naming.{shown, shown-next_set, shown-prev_set}
use Rattle.acc_raw.proofs.Places.{some_at}

-- the end stays where a node is on that side
pub end_stays : {X : Type 0} (ps : List (Placed X)) (j : ℕ) (to h : Option Place) → j < length ps → end_after (place_at ps j) to h ≡ h
end_stays ps j to h lt = let s = some_at ps j lt in ap (λ o. end_after o to h) s.1

module _ {X : Type 0} where
  below-with_at : (ps : List (Placed X)) (i j : ℕ) (n : Placed X) → j < i → i ≤ length ps → place_at (with_at ps i n) j ≡ place_at ps j
  below-with_at [] i j n lt le = absurd (omega arith)
  below-with_at (q ∷ ps) zero j n lt le = absurd (omega arith)
  below-with_at (q ∷ ps) (suc i) zero n lt le = refl
  below-with_at (q ∷ ps) (suc i) (suc j) n lt le = below-with_at ps i j n (omega arith) (omega arith)

  pub before-with_at : (ps : List (Placed X)) (i : ℕ) (n : Placed X) → i ≤ length ps → place_before None (with_at ps i n) i ≡ place_before None ps i
  before-with_at ps zero n le = refl
  before-with_at ps (suc i) n le = below-with_at ps (suc i) i n (omega arith) le

  pub after-with_at : (ps : List (Placed X)) (i : ℕ) (n : Placed X) → i ≤ length ps → place_at (with_at ps i n) (suc i) ≡ place_at ps i
  after-with_at [] zero n le = refl
  after-with_at [] (suc i) n le = absurd (omega arith)
  after-with_at (q ∷ ps) zero n le = refl
  after-with_at (q ∷ ps) (suc i) n le = after-with_at ps i n (omega arith)

  -- the first of the others stays
  first-spliced : (ps : List (Placed X)) (i : ℕ) (n : Placed X) → suc i ≤ length ps → place_at (spliced ps (suc i) n) 0 ≡ place_at ps 0
  first-spliced [] i n le = absurd (omega arith)
  first-spliced (q ∷ ps) zero n le = refl
  first-spliced (q ∷ ps) (suc i) n le = refl

  pub IsWired-spliced : (a : Option Place) (ps : List (Placed X)) (i : ℕ) (n : Placed X) → i ≤ length ps → IsWired a ps
      → n.1.prev ≡ place_before a ps i → n.1.next ≡ place_at ps i → IsWired a (spliced ps i n)
  IsWired-spliced a [] zero n le w p q = (p, q, tt)
  IsWired-spliced a [] (suc i) n le w p q = absurd (omega arith)
  IsWired-spliced a (r ∷ ps) zero n le w p q = (p, q, (refl, w.1, w.2))
  IsWired-spliced a (r ∷ []) (suc zero) n le w p q = (w.0, refl, (p, q, tt))
  IsWired-spliced a (r ∷ s ∷ ps) (suc zero) n le w p q = (w.0, refl, (p, q, (refl, w.2.1, w.2.2)))
  IsWired-spliced a (r ∷ ps) (suc (suc i)) n le w p q =
      (w.0, w.1 ∙ sym (first-spliced ps i n (omega arith)), IsWired-spliced (Some (place r.0)) ps (suc i) n (omega arith) w.2 p q)

  first-zero : (ps : List (Placed X)) (n : Placed X) → Some (place n.0) ≡ place_at (spliced ps 0 n) 0
  first-zero [] n = refl
  first-zero (q ∷ ps) n = refl

  first-in : (ps : List (Placed X)) (i : ℕ) (n : Placed X) (h : Option Place) → h ≡ place_at ps 0 → i ≤ length ps
      → end_after (place_before None ps i) (Some (place n.0)) h ≡ place_at (spliced ps i n) 0
  first-in ps zero n h e le = first-zero ps n
  first-in ps (suc i) n h e le = end_stays ps i (Some (place n.0)) h (omega arith) ∙ e ∙ sym (first-spliced ps i n le)

  last-in : (a : Option Place) (ps : List (Placed X)) (i : ℕ) (n : Placed X) (t : Option Place) → t ≡ last_place a ps → i ≤ length ps
      → end_after (place_at ps i) (Some (place n.0)) t ≡ last_place a (spliced ps i n)
  last-in a [] zero n t e le = refl
  last-in a [] (suc i) n t e le = absurd (omega arith)
  last-in a (q ∷ ps) zero n t e le = e
  last-in a (q ∷ []) (suc zero) n t e le = refl
  last-in a (q ∷ r ∷ ps) (suc zero) n t e le = e
  last-in a (q ∷ ps) (suc (suc i)) n t e le = last-in (Some (place q.0)) ps (suc i) n t e (omega arith)

  -- a node comes between its neighbours
  pub wired-in : {h t : Option Place} (ps : List (Placed X)) (i : ℕ) (n : Placed X) → IsWiredChain h t ps → i ≤ length ps → n.1.prev ≡ place_before None ps i → n.1.next ≡ place_at ps i
      → IsWiredChain (end_after n.1.prev (Some (place n.0)) h) (end_after n.1.next (Some (place n.0)) t) (spliced ps i n)
  wired-in {h} {t} ps i n w le p q = record {
    wired = IsWired-spliced None ps i n le w.wired p q;
    first = ap (λ o. end_after o (Some (place n.0)) h) p ∙ first-in ps i n h w.first le;
    last = ap (λ o. end_after o (Some (place n.0)) t) q ∙ last-in None ps i n t w.last le;
  }

  pub values-end : (ps : List (Placed X)) (n : Placed X) → values (spliced ps (length ps) n) ≡ values ps ++ n.1.value ∷ []
  values-end [] n = refl
  values-end (q ∷ []) n = refl
  values-end (q ∷ r ∷ ps) n = ap (λ l. q.1.value ∷ l) (values-end (r ∷ ps) n)

module _ {X Y : Type 0} (f : Ptr → X → Y) where
  shown-with_at : (ps : List (Placed X)) (i : ℕ) (n : Placed X) → shown f (with_at ps i n) ≡ insert (shown f ps) i (f n.0 n.1.value)
  shown-with_at [] zero n = refl
  shown-with_at [] (suc i) n = refl
  shown-with_at (q ∷ ps) zero n = refl
  shown-with_at (q ∷ ps) (suc i) n = ap (λ ys. f q.0 q.1.value ∷ ys) (shown-with_at ps i n)

  -- what all show has the new node's in its place
  pub shown-spliced : (ps : List (Placed X)) (i : ℕ) (n : Placed X) → shown f (spliced ps i n) ≡ insert (shown f ps) i (f n.0 n.1.value)
  shown-spliced ps i n =
      let b = Some (place n.0) in
      shown-prev_set f (next_set (with_at ps i n) i b) (suc i) b ∙ shown-next_set f (with_at ps i n) i b ∙ shown-with_at ps i n
