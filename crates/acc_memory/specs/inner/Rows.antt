-- Rows by number, and what one change makes of them. Only private contracts and proofs cite it.
use Rattle.std.specs.Prelude.{◌≡◌, ℕ, ◌+◌, ◌-◌, ◌≤◌, true, List, ◌++◌, length, map, take, drop, ℤ, Option, Some}
use Rattle.std.specs.List.{range_with_len}
use Rattle.acc_base.specs.declared.range.Range.{Range}
use Rattle.acc_memory.specs.Memories.{Row, find_row, is_whole}
use Rattle.acc_memory.specs.Values.{Cell, Block_cell}
use Rattle.acc_memory.specs.inner.Buckets.{IsSetBy}

abbrev pub number_of : Row → ℕ
number_of row = row.block

-- one block has this row, or none; each other has the row that it had
abbrev pub IsSetAt : ℕ → Option Row → List Row → List Row → Type 0
IsSetAt n row old new = IsSetBy number_of n row old new

-- each row has as many cells as its range
abbrev pub AreWhole : List Row → Type 0
AreWhole rows = (n : ℕ) (row : Row) → find_row rows n ≡ Some row → is_whole row ≡ true

-- a row has so many cells from one on
pub record HasRoom (row : Row) (first count : ℕ) : Type 0 where
  pub low : row.range.lo ≤ first
  pub high : first - row.range.lo + count ≤ length row.cells

-- a row with these values from an index on
abbrev pub stored : Row → ℕ → List ℤ → Row
stored row at values = record row { cells = take at row.cells ++ values ++ drop (at + length values) row.cells }

-- what the cells of a range of a block hold
abbrev pub range_values : ℕ → ℕ → Range → (Cell → ℤ) → List ℤ
range_values device block r was = map (λ cell. was (Block_cell device block cell)) (range_with_len r.lo r.len)
