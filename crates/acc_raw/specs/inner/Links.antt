-- The nodes of a store: where each lies, and what it holds.
use Rattle.std.specs.Prelude.{◌≡◌, ℕ, suc, List, ◌∷◌, ◌++◌, take, drop, slice_get, Some}
use denote.RawPtr.{Ptr}
use Rattle.acc_raw.specs.declared.link.Link.{Link}

-- an L at a place
abbrev pub Lying : Type 0 → Type 0
Lying L = Ptr × L

-- a node of a chain at a place
abbrev pub Placed : Type 0 → Type 0
Placed X = Lying (Link X)

module _ {L : Type 0} where
  -- the i-th node lies at p
  abbrev pub IsAt : List (Lying L) → ℕ → Ptr → Type 0
  IsAt ps i p = (l : L) × (slice_get ps i ≡ Some (p, l))

  -- the nodes but for the i-th
  abbrev pub without : List (Lying L) → ℕ → List (Lying L)
  without ps i = take i ps ++ drop (suc i) ps

  -- the nodes with one more before the i-th
  abbrev pub with_at : List (Lying L) → ℕ → Lying L → List (Lying L)
  with_at ps i p = take i ps ++ p ∷ drop i ps
