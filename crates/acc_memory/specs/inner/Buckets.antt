-- Values by number, spread over chains. Only private contracts and proofs cite it.
use Rattle.std.specs.Prelude.{◌≡◌, ◌≤◌, ℕ, ◌+◌, bit_and, ◌==◌, if◌then◌else◌, List, [], length, find, slice_index_or, Option, None}
use Rattle.std.specs.List.{AllPairs, flat_map}

-- the first value of a number
abbrev pub find_by : {X : Type 0} → (X → ℕ) → List X → ℕ → Option X
find_by key xs n = find (λ x. key x == n) xs

-- no two are of the same number
abbrev pub AreOnce : {X : Type 0} → (X → ℕ) → List X → Type 0
AreOnce key xs = AllPairs (λ x y. key x ≡ key y → ⊥) xs

-- of one number there is this value, or none; of each other number the one that there was
abbrev pub IsSetBy : {X : Type 0} → (X → ℕ) → ℕ → Option X → List X → List X → Type 0
IsSetBy key n x old new = (k : ℕ) → find_by key new k ≡ (if k == n then x else find_by key old k)

-- the chain of a number, where this one is the last that there may be
abbrev pub bucket_of : ℕ → ℕ → ℕ
bucket_of last n = bit_and n last

-- the values of that chain; none where it isn't there
abbrev pub bucket_in : {X : Type 0} → List (List X) → ℕ → List X
bucket_in buckets k = slice_index_or buckets k []

-- the values of all chains
abbrev pub in_all : {X : Type 0} → List (List X) → List X
in_all buckets = flat_map (λ xs. xs) buckets

-- each chain has the values that it had
abbrev pub HaveSame : {X : Type 0} → List (List X) → List (List X) → Type 0
HaveSame old new = (k : ℕ) → bucket_in new k ≡ bucket_in old k

-- There are no more chains than may be, and each value that is there is in that of its number, which no other there is of.
pub record AreSpread {X : Type 0} (key : X → ℕ) (last : ℕ) (buckets : List (List X)) : Type 0 where
  pub few : length buckets ≤ last + 1
  pub once : (k : ℕ) → AreOnce key (bucket_in buckets k)
  pub own : (k n : ℕ) → (bucket_of last n ≡ k → ⊥) → find_by key (bucket_in buckets k) n ≡ None
