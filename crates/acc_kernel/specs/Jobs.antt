-- A loop with the cells that it uses: the values before it, and those that it gives.
use Rattle.std.specs.Prelude.{◌≡◌, ◌≢◌, ℕ, ℤ, ◌+◌, ◌<◌, ◌+ℤ◌, ◌-ℤ◌, pos, not, ◌==◌, ◌&&◌, int_le, int_lt, unsigned_abs, Bool, IsTrue, List, [], ◌∷◌, filter, length, map, replicate, slice_index_or, Option, Some, None}
use Rattle.std.specs.List.{AllPairs, list_any, position_or_len, range_with_len}
use Rattle.acc_base.specs.declared.range.Range.{Range}
use Rattle.acc_kernel.specs.declared.assign.Assign.{Assign}
use Rattle.acc_kernel.specs.declared.reach.Reach.{Reach}
use Rattle.acc_kernel.specs.Cells.{value_in, with_cells}
use Rattle.acc_kernel.specs.Faults.{is_assigned}
use Rattle.acc_kernel.specs.Kernels.{Loop, Reaches, reach_of, value_after}
use Rattle.acc_kernel.specs.Trees.{Reference, references_of}

-- a use: the block that has the cells of a range
abbrev pub Use : Type 0
Use = ℕ × Range

abbrev pub no_use : Use
no_use = (0, record { array = 0; lo = 0; len = 0 })

-- the place of the first use of an array, or how many there are
abbrev pub place_of : List Use → ℕ → ℕ
place_of uses array = position_or_len (λ u. u.1.array == array) uses

-- the range of that use, or one without a cell
abbrev pub used_range : List Use → ℕ → Range
used_range uses array = (slice_index_or uses (place_of uses array) no_use).1

abbrev pub uses_have : List Use → ℕ → ℤ → Bool
uses_have uses array cell =
    int_le (pos (used_range uses array).lo) cell && int_lt cell (pos ((used_range uses array).lo + (used_range uses array).len))

-- the value of a cell, where each use has its row
abbrev pub cell_in : List Use → List (List ℤ) → ℕ → ℤ → ℤ
cell_in uses rows array cell =
    value_in (slice_index_or rows (place_of uses array) []) (cell -ℤ pos (used_range uses array).lo)

-- some use is of the array
abbrev pub is_used : List Use → ℕ → Bool
is_used uses array = list_any (λ u. u.1.array == array) uses

-- each array is used at most once
abbrev pub AreDistinct : List Use → Type 0
AreDistinct uses = AllPairs (λ u v. u.1.array ≢ v.1.array) uses

-- they have all cells that the loop reaches
abbrev pub HoldReached : Loop → List Use → Type 0
HoldReached k uses = (array : ℕ) (cell : ℤ) → Reaches k array cell → IsTrue (uses_have uses array cell)

-- the uses don't have the cell of a reference at the first or at the last index
abbrev pub is_lacking : ℤ → ℤ → List Use → Reference → Bool
is_lacking first last uses r =
    not (uses_have uses r.array (first +ℤ r.offset) && uses_have uses r.array (last +ℤ r.offset))

-- a row for each use, with a value for each of its cells
pub record AreRows (uses : List Use) (rows : List (List ℤ)) : Type 0 where
  pub count : length rows ≡ length uses
  pub lengths : (place : ℕ) → place < length uses → length (slice_index_or rows place []) ≡ (slice_index_or uses place no_use).1.len

-- some expression of the statements reads the array
abbrev pub is_read : List Assign → ℕ → Bool
is_read statements array = list_any (λ s. list_any (λ (r : Reference). r.array == array) (references_of s.value)) statements

-- the cells of an array from the first to the last of a reach, or none
abbrev pub range_of : ℕ → Option Reach → Range
range_of array None = record { array = array; lo = 0; len = 0 }
range_of array (Some r) = record { array = array; lo = unsigned_abs r.first; len = unsigned_abs ((r.last +ℤ pos 1) -ℤ r.first) }

-- of the uses of the arrays that are chosen, the cells that a loop reaches, from the least to the greatest
abbrev pub reached_uses : (ℕ → Bool) → Loop → List Use → List Use
reached_uses chosen k uses = map (λ u. (u.0, range_of u.1.array (reach_of k u.1.array))) (filter (λ u. chosen u.1.array) uses)

-- what a loop reads of its uses, and what it assigns of them: an array that it assigns is reached at the indices alone
abbrev pub read_uses : Loop → List Use → List Use
read_uses k = reached_uses (is_read k.statements) k

abbrev pub written_uses : Loop → List Use → List Use
written_uses k = reached_uses (is_assigned k.statements) k

-- A loop with the cells that it uses: the inputs are the values, before it, of the cells that it reads; the outputs are those that
-- it assigns.
pub record Computation : Type 0 where
  pub kernel : Loop
  pub uses : List Use
  pub inputs : List (List ℤ)
  pub outputs : List (List ℤ)

-- zeros, before any input was set
abbrev pub zero_rows : List Use → List (List ℤ)
zero_rows uses = map (λ u. replicate u.1.len (pos 0)) uses

-- the values of a range's cells
abbrev pub values_shown : (ℕ → ℤ → ℤ) → Range → List ℤ
values_shown cells r = map (λ cell. cells r.array (pos cell)) (range_with_len r.lo r.len)

-- the values of the cells of each use
abbrev pub shown : List Use → (ℕ → ℤ → ℤ) → List (List ℤ)
shown uses cells = map (λ u. values_shown cells u.1) uses

-- what the loop gives of these inputs
abbrev pub computed : Computation → List (List ℤ)
computed c = shown (written_uses c.kernel c.uses) (value_after c.kernel (cell_in (read_uses c.kernel c.uses) c.inputs))

-- the cells after each use's row was written over its range
abbrev pub stored : List Use → List (List ℤ) → (ℕ → ℤ → ℤ) → ℕ → ℤ → ℤ
stored [] rows cells = cells
stored (u ∷ uses) [] cells = cells
stored (u ∷ uses) (row ∷ rows) cells = stored uses rows (with_cells cells u.1.array (pos u.1.lo) u.1.len row)

-- a window has all cells of the uses
abbrev pub HasUses : List Use → (ℕ → ℤ → Bool) → Type 0
HasUses uses has = (array : ℕ) (cell : ℤ) → IsTrue (uses_have uses array cell) → IsTrue (has array cell)

-- what a job keeps
pub record IsJob (c : Computation) : Type 0 where
  pub distinct : AreDistinct c.uses
  pub reached : HoldReached c.kernel c.uses
  pub inputs : AreRows (read_uses c.kernel c.uses) c.inputs
  pub outputs : AreRows (written_uses c.kernel c.uses) c.outputs
