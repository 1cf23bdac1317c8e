-- The blocks of a device as a loop sees them: of each array the block that it uses for it.
use Rattle.std.specs.Prelude.{◌≡◌, ℕ, ℤ, ◌+◌, ◌-ℤ◌, pos, ◌==◌, ◌&&◌, int_le, int_lt, Bool, false, List, map, Option, Some, None, if◌then◌else◌}
use Rattle.acc_kernel.specs.Cells.{value_in}
use Rattle.acc_kernel.specs.Jobs.{Use}
use Rattle.acc_memory.specs.Memories.{Row, SameBlocks, find_row, made_of, is_whole}
use Rattle.acc_memory.specs.Values.{block_of}

abbrev pub of_array : ℕ → Option Row → Option Row
of_array array None = None
of_array array (Some row) = if row.range.array == array then Some row else None

-- the block that is used for an array, if its range is of the array
abbrev pub row_for : List Row → List Use → ℕ → Option Row
row_for rows uses array = of_array array (find_row rows (block_of uses array))

abbrev pub has_at : Option Row → ℤ → Bool
has_at None cell = false
has_at (Some row) cell = is_whole row && (int_le (pos row.range.lo) cell && int_lt cell (pos (row.range.lo + row.range.len)))

abbrev pub cell_at : Option Row → ℤ → ℤ
cell_at None cell = pos 0
cell_at (Some row) cell = value_in row.cells (cell -ℤ pos row.range.lo)

abbrev pub window_has : List Row → List Use → ℕ → ℤ → Bool
window_has rows uses array = has_at (row_for rows uses array)

abbrev pub window_cells : List Row → List Use → ℕ → ℤ → ℤ
window_cells rows uses array = cell_at (row_for rows uses array)

-- The blocks keep their numbers and ranges; those that are used for no array stay as they are.
pub record KeepsRows (uses : List Use) (old new : List Row) : Type 0 where
  pub blocks : SameBlocks (map made_of new) (map made_of old)
  pub others : (n : ℕ) (row : Row) → find_row old n ≡ Some row → (block_of uses row.range.array ≡ n → ⊥) → find_row new n ≡ Some row
