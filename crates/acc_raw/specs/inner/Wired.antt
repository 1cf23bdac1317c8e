-- How the nodes of a chain name one another.
use Rattle.std.specs.Prelude.{◌≡◌, ℕ, zero, suc, List, [], ◌∷◌, map, Option, Some, None}
use denote.RawPtr.{Ptr}
use Rattle.acc_raw.specs.declared.link.Link.{Link}
use Rattle.acc_raw.specs.declared.link.Place.{Place}
use Rattle.acc_raw.specs.inner.Links.{Placed, with_at, without}

abbrev pub place : Ptr → Place
place p = record { ptr = p }

module _ {X : Type 0} where
  -- where the i-th node lies, if there is one
  abbrev pub place_at : List (Placed X) → ℕ → Option Place
  place_at [] i = None
  place_at (p ∷ ps) zero = Some (place p.0)
  place_at (p ∷ ps) (suc i) = place_at ps i

  -- where the node before the i-th lies, with a before the first
  abbrev pub place_before : Option Place → List (Placed X) → ℕ → Option Place
  place_before a ps zero = a
  place_before a ps (suc i) = place_at ps i

  -- the link names the neighbours of one that comes before the i-th
  abbrev pub is_between : List (Placed X) → ℕ → Link X → Type 0
  is_between ps i l = (l.prev ≡ place_before None ps i) × (l.next ≡ place_at ps i)

  -- each node names the one before and the one after, and a is before the first
  abbrev pub IsWired : Option Place → List (Placed X) → Type 0
  IsWired a [] = Unit {0}
  IsWired a (p ∷ ps) = (p.1.prev ≡ a) × (p.1.next ≡ place_at ps zero) × IsWired (Some (place p.0)) ps

  -- the last node, or a
  abbrev pub last_place : Option Place → List (Placed X) → Option Place
  last_place a [] = a
  last_place a (p ∷ ps) = last_place (Some (place p.0)) ps

  abbrev pub with_prev : Option Place → Placed X → Placed X
  with_prev a p = (p.0, record p.1 { prev = a })

  abbrev pub with_next : Option Place → Placed X → Placed X
  with_next a p = (p.0, record p.1 { next = a })

  -- the node before the i-th names a as the one after
  abbrev pub next_set : List (Placed X) → ℕ → Option Place → List (Placed X)
  next_set [] i a = []
  next_set (p ∷ ps) zero a = p ∷ ps
  next_set (p ∷ ps) (suc zero) a = with_next a p ∷ ps
  next_set (p ∷ ps) (suc (suc i)) a = p ∷ next_set ps (suc i) a

  -- the i-th node names a as the one before
  abbrev pub prev_set : List (Placed X) → ℕ → Option Place → List (Placed X)
  prev_set [] i a = []
  prev_set (p ∷ ps) zero a = with_prev a p ∷ ps
  prev_set (p ∷ ps) (suc i) a = p ∷ prev_set ps i a

  -- n before the i-th node, and its neighbours name it
  abbrev pub spliced : List (Placed X) → ℕ → Placed X → List (Placed X)
  spliced ps i n = let b = Some (place n.0) in prev_set (next_set (with_at ps i n) i b) (suc i) b

  -- the i-th node, which holds l, is out, and its neighbours name each other
  abbrev pub unspliced : List (Placed X) → ℕ → Link X → List (Placed X)
  unspliced ps i l = prev_set (next_set (without ps i) i l.next) i l.prev

  -- the values, in order
  abbrev pub values : List (Placed X) → List X
  values ps = map (λ p. p.1.value) ps

  -- where the nodes lie, in order
  abbrev pub places : List (Placed X) → List Place
  places ps = map (λ p. place p.0) ps

  -- head and tail are the ends of these nodes, and each of them names its neighbours
  pub record IsWiredChain (head tail : Option Place) (ps : List (Placed X)) : Type 0 where
    pub wired : IsWired None ps
    pub first : head ≡ place_at ps zero
    pub last : tail ≡ last_place None ps

-- the end on a node's one side, once it has come or gone: `to` where no neighbour is on that side
abbrev pub end_after : Option Place → Option Place → Option Place → Option Place
end_after None to end = to
end_after (Some p) to end = end
