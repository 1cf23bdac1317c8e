-- A range as the set of its cells (OpenACC API 3.0, 2.7.1, Data Specification in Data Clauses).
use Rattle.std.specs.Prelude.{◌≡◌, ℕ, ◌+◌, ◌<◌, ◌≤◌, Bool, ◌&&◌, ◌||◌, ◌==◌, nat_lt, nat_le, min, max}
use Rattle.acc_base.specs.declared.range.Range.{Range}

-- this cell of this array is one of the range's
abbrev pub IsCellOf : Range → ℕ → ℕ → Type 0
IsCellOf r array cell = (array ≡ r.array) × (r.lo ≤ cell) × (cell < r.lo + r.len)

-- each cell of the second range is one of the first
abbrev pub Includes : Range → Range → Type 0
Includes a b = (array cell : ℕ) → IsCellOf b array cell → IsCellOf a array cell

-- some cell is in both
abbrev pub Meets : Range → Range → Type 0
Meets a b = (array : ℕ) × (cell : ℕ) × IsCellOf a array cell × IsCellOf b array cell

-- the two as tests of the bounds
unfoldable pub range_contains : Range → Range → Bool
range_contains a b =
    (b.len == 0) || ((a.array == b.array) && (nat_le a.lo b.lo && nat_le (b.lo + b.len) (a.lo + a.len)))

unfoldable pub range_overlaps : Range → Range → Bool
range_overlaps a b = (a.array == b.array) && nat_lt (max a.lo b.lo) (min (a.lo + a.len) (b.lo + b.len))
