-- The values of cells: which cells there are, what an operation or a write makes of them, and what a range of them holds
-- (OpenACC API 3.0, 2.7, Data Clauses, and 2.9, Loop Construct).
use Rattle.std.specs.Prelude.{ℕ, zero, suc, ◌+◌, Bool, ◌&&◌, nat_lt, nat_le, ◌==◌, List, [], ◌∷◌, find, slice_index_or, Option, Some, None, ℤ, pos, negsuc, if◌then◌else◌}
use Rattle.acc_base.specs.declared.range.Range.{Range}
use Rattle.acc_batch.specs.declared.label.OpLabel.{OpLabel}
use Rattle.acc_batch.specs.declared.label.OpLabel.TheVariants.{Make, CopyIn, CopyOut, Release, Run, Await, Close}
use Rattle.acc_kernel.specs.Jobs.{Use, no_use}
use Rattle.acc_kernel.specs.Jobs as jobs
use Rattle.acc_kernel.specs.Kernels.{Loop, value_after}

-- A cell of a host array, or of a device's block by the array's own cell number.
pub data Cell : Type 0 where
  Host_cell : ℕ → ℕ → Cell
  Block_cell : ℕ → ℕ → ℕ → Cell

abbrev pub is_in : Range → ℕ → Bool
is_in r cell = nat_le r.lo cell && nat_lt cell (r.lo + r.len)

-- the block that a loop uses for an array
abbrev pub block_of : List Use → ℕ → ℕ
block_of uses array = (slice_index_or uses (jobs.place_of uses array) no_use).0

-- What a loop with these uses sees on a device: as a cell of an array, the block's that it uses for the array.
abbrev pub cells_by : List Use → ℕ → (Cell → ℤ) → ℕ → ℤ → ℤ
cells_by uses device was array (pos cell) = was (Block_cell device (block_of uses array) cell)
cells_by uses device was array (negsuc n) = pos 0

-- the use that has this cell of a block, if there is one
abbrev pub use_with : List Use → ℕ → ℕ → Option Use
use_with uses block cell = find (λ u. (u.0 == block) && is_in u.1 cell) uses

-- A cell that a use has gets the value that the loop gives it over the cells that it sees; another stays.
abbrev pub after_loop : Loop → (ℕ → ℤ → ℤ) → Option Use → ℕ → ℤ → ℤ
after_loop k cells None cell was = was
after_loop k cells (Some u) cell was = value_after k cells u.1.array (pos cell)

-- the cells of a block after one more operation on its device
abbrev pub block_after : OpLabel → ℕ → (Cell → ℤ) → ℕ → ℕ → ℤ
block_after (Make r b) device was block cell =
    if (block == b) && is_in r cell then pos 0 else was (Block_cell device block cell)
block_after (CopyIn r b) device was block cell =
    if (block == b) && is_in r cell then was (Host_cell r.array cell) else was (Block_cell device block cell)
block_after (CopyOut r b) device was block cell = was (Block_cell device block cell)
block_after (Release b) device was block cell = was (Block_cell device block cell)
block_after (Await q n) device was block cell = was (Block_cell device block cell)
block_after Close device was block cell = was (Block_cell device block cell)
block_after (Run k uses) device was block cell =
    after_loop k (cells_by uses device was) (use_with uses block cell) cell (was (Block_cell device block cell))

-- the cells of the host arrays after it
abbrev pub host_cells_after : OpLabel → ℕ → (Cell → ℤ) → ℕ → ℕ → ℤ
host_cells_after (CopyOut r b) device was array cell =
    if (array == r.array) && is_in r cell then was (Block_cell device b cell) else was (Host_cell array cell)
host_cells_after (Make r b) device was array cell = was (Host_cell array cell)
host_cells_after (CopyIn r b) device was array cell = was (Host_cell array cell)
host_cells_after (Release b) device was array cell = was (Host_cell array cell)
host_cells_after (Run k uses) device was array cell = was (Host_cell array cell)
host_cells_after (Await q n) device was array cell = was (Host_cell array cell)
host_cells_after Close device was array cell = was (Host_cell array cell)

-- The value of each cell after one more operation on a device.
abbrev pub after_op : ℕ → OpLabel → (Cell → ℤ) → Cell → ℤ
after_op device op was (Host_cell array cell) = host_cells_after op device was array cell
after_op device op was (Block_cell d block cell) =
    if d == device then block_after op device was block cell else was (Block_cell d block cell)

-- The value of each cell after a host wrote one.
abbrev pub after_write : ℕ → ℕ → ℤ → (Cell → ℤ) → Cell → ℤ
after_write a i value was (Host_cell array cell) =
    if (array == a) && (cell == i) then value else was (Host_cell array cell)
after_write a i value was (Block_cell d block cell) = was (Block_cell d block cell)

abbrev pub or_empty : Option (List ℤ) → List ℤ
or_empty None = []
or_empty (Some zs) = zs

abbrev pub or_zero : Option ℤ → ℤ
or_zero None = pos 0
or_zero (Some z) = z

abbrev pub values_from : (ℕ → ℤ) → ℕ → ℕ → List ℤ
values_from at lo zero = []
values_from at lo (suc n) = at lo ∷ values_from at (lo + 1) n

-- the values of a range of a host array
abbrev pub values_of : (Cell → ℤ) → Range → List ℤ
values_of at r = values_from (λ i. at (Host_cell r.array i)) r.lo r.len
