-- How the rows of the uses are found: by a table of their places.
use Rattle.std.specs.Prelude.{◌≡◌, ℕ, ℤ, ◌<◌, ◌+ℤ◌, pos, Bool, IsTrue, List, length, slice_index_or}
use Rattle.acc_base.specs.declared.range.Range.{Range}
use Rattle.acc_kernel.specs.Jobs.{Use, AreDistinct, AreRows, place_of}

pub record RowsView : Type 0 where
  pub uses : List Use
  pub rows : List (List ℤ)

-- the table has the place of each array's use
pub record IsTable (uses : List Use) (places : List ℕ) : Type 0 where
  pub count : length places ≡ 256
  pub places_are : (array : ℕ) → array < 256 → slice_index_or places array 0 ≡ place_of uses array

pub record IsStored (uses : List Use) (places : List ℕ) (rows : List (List ℤ)) : Type 0 where
  pub table : IsTable uses places
  pub shape : AreRows uses rows
  pub distinct : AreDistinct uses

-- a window has all cells of a range
abbrev pub HasRange : Range → (ℕ → ℤ → Bool) → Type 0
HasRange r has = (k : ℕ) → k < r.len → IsTrue (has r.array (pos r.lo +ℤ pos k))
