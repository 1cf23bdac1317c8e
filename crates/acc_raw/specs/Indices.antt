-- What an index of a chain shows.
use Rattle.std.specs.Prelude.{ℕ, zero, suc, nat_lt, List, slice_get, slice_set, Option, None}
use Rattle.std.specs.List.{position_or_len}

-- the values in their order, the key of each, and how many nodes there is room to name
pub record IndexedView (X : Type 0) : Type 0 where
  pub items : List X
  pub keys : List ℕ
  pub room : ℕ

-- how many of these keys, of which none is greater than one behind it, come before the first that is greater
abbrev pub up_to : ℕ → List ℕ → ℕ
up_to key keys = position_or_len (λ k. nat_lt key k) keys

module _ {X : Type 0} where
  -- the n-th, counted from 1
  abbrev pub last_of : List X → ℕ → Option X
  last_of xs zero = None
  last_of xs (suc i) = slice_get xs i

  -- the same with w as the i-th value
  abbrev pub with_value : IndexedView X → ℕ → X → IndexedView X
  with_value v i w = record v { items = slice_set v.items i w }
