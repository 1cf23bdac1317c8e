-- What a memory shows, cell by cell.
use Rattle.std.specs.Prelude.{◌≡◌, ℕ, ◌+◌, ◌-◌, Bool, true, false, ◌&&◌, ◌||◌, ◌==◌, not, nat_lt, nat_le, IsTrue, List, [], ◌∷◌, length, map, filter, find, slice_get, Option, Some, None, is_some, All, ℤ, pos, if◌then◌else◌}
use Rattle.std.specs.List.{list_all}
use Rattle.acc_base.specs.declared.range.Range.{Range}
use Rattle.acc_base.specs.Configurations.{lengths_of}
use Rattle.acc_base.specs.Ranges.{Includes, range_contains}
use Rattle.acc_batch.specs.Labels.{has_number}
use Rattle.acc_batch.specs.Lives.{Made}
use Rattle.acc_batch.specs.declared.label.OpLabel.{OpLabel}
use Rattle.acc_batch.specs.declared.label.OpLabel.TheVariants.{Make, CopyIn, CopyOut, Release, Run, Await, Close}
use Rattle.acc_batch.specs.declared.op.Block.{Block}
use Rattle.acc_batch.specs.declared.op.Op.{Op}
use Rattle.acc_batch.specs.Ops.{op_label, IsReady}
use Rattle.acc_kernel.specs.Jobs.{Use}
use Rattle.acc_memory.specs.Values.{Cell, Host_cell, Block_cell, is_in, after_op, or_empty, or_zero}

-- A block: its number, its range, and the cells of that range.
abbrev pub Row : Type 0
Row = Block

-- the one with these
abbrev pub row_with : ℕ → Range → List ℤ → Row
row_with block range cells = record { block = block; range = range; cells = cells }

-- The blocks that were ever made: each from number 1 to a bound, and these others, in no particular order.
pub record MakesView : Type 0 where
  pub all_to : ℕ
  pub others : List ℕ

-- a block is among them
abbrev pub is_made : MakesView → ℕ → Bool
is_made makes block = (nat_lt 0 block && nat_le block makes.all_to) || has_number makes.others block

-- A device: a row for each block that is there, in no particular order, and which blocks were ever made.
pub record DeviceView : Type 0 where
  pub rows : List Row
  pub makes : MakesView

-- The host arrays, and the devices.
pub record MemoryView : Type 0 where
  pub arrays : List (List ℤ)
  pub devices : List DeviceView

abbrev pub rows_in : Option DeviceView → List Row
rows_in None = []
rows_in (Some device) = device.rows

-- the rows of a device
abbrev pub rows_on : MemoryView → ℕ → List Row
rows_on m device = rows_in (slice_get m.devices device)

abbrev pub was_made_in : Option DeviceView → ℕ → Bool
was_made_in None block = false
was_made_in (Some device) block = is_made device.makes block

-- an operation of a device made a block, whether or not it is still there
abbrev pub was_made_on : MemoryView → ℕ → ℕ → Bool
was_made_on m device block = was_made_in (slice_get m.devices device) block

-- an operation makes a block
abbrev pub is_made_by : ℕ → OpLabel → Bool
is_made_by block (Make r b) = b == block
is_made_by block op = false

abbrev pub find_row : List Row → ℕ → Option Row
find_row rows block = find (λ row. row.block == block) rows

abbrev pub row_cell : Option Row → ℕ → ℤ
row_cell None cell = pos 0
row_cell (Some row) cell = or_zero (slice_get row.cells (cell - row.range.lo))

-- what a cell holds, zero where there is none
abbrev pub cell_of : MemoryView → Cell → ℤ
cell_of m (Host_cell array cell) = or_zero (slice_get (or_empty (slice_get m.arrays array)) cell)
cell_of m (Block_cell device block cell) = row_cell (find_row (rows_on m device) block) cell

abbrev pub row_has : Option Row → ℕ → Bool
row_has None cell = false
row_has (Some row) cell = is_in row.range cell

-- a cell of a host array, or of a block that is there
abbrev pub is_held : MemoryView → Cell → Bool
is_held m (Host_cell array cell) = true
is_held m (Block_cell device block cell) = row_has (find_row (rows_on m device) block) cell

-- A memory shows these values, wherever it holds the cell.
abbrev pub Shows : MemoryView → (Cell → ℤ) → Type 0
Shows m was = (c : Cell) → IsTrue (is_held m c) → cell_of m c ≡ was c

-- So do the rows of a device, and the cells of a host array.
abbrev pub ShowsRows : ℕ → List Row → (Cell → ℤ) → Type 0
ShowsRows device rows was =
    (block cell : ℕ) → IsTrue (row_has (find_row rows block) cell) → row_cell (find_row rows block) cell ≡ was (Block_cell device block cell)

abbrev pub ShowsArray : ℕ → List ℤ → (Cell → ℤ) → Type 0
ShowsArray array cells was = (cell : ℕ) → or_zero (slice_get cells cell) ≡ was (Host_cell array cell)

abbrev pub made_of : Row → Made
made_of row = record { block = row.block; range = row.range }

-- the blocks that are there, with their ranges
abbrev pub held_blocks : MemoryView → ℕ → List Made
held_blocks m device = map made_of (rows_on m device)

-- what one operation makes of the blocks that are there
abbrev pub blocks_after : OpLabel → List Made → List Made
blocks_after (Make r b) bs = record { block = b; range = r } ∷ bs
blocks_after (CopyIn r b) bs = bs
blocks_after (CopyOut r b) bs = bs
blocks_after (Release b) bs = filter (λ k. not (k.block == b)) bs
blocks_after (Run k uses) bs = bs
blocks_after (Await q n) bs = bs
blocks_after Close bs = bs

abbrev pub find_block : List Made → ℕ → Option Made
find_block bs block = find (λ k. k.block == block) bs

-- a block is there and has the cell
abbrev pub has_cell : Option Made → ℕ → Bool
has_cell None cell = false
has_cell (Some b) cell = is_in b.range cell

-- The same blocks are there.
abbrev pub SameBlocks : List Made → List Made → Type 0
SameBlocks xs bs = (n : ℕ) → find_block xs n ≡ find_block bs n

-- a row has as many cells as its range
abbrev pub is_whole : Row → Bool
is_whole row = length row.cells == row.range.len

abbrev pub reaches : Option ℕ → ℕ → Bool
reaches None end = false
reaches (Some len) end = nat_le end len

-- of arrays with these lengths, there is the range's, and the range ends in it
abbrev pub ends_in : List ℕ → Range → Bool
ends_in lengths range = reaches (slice_get lengths range.array) (range.lo + range.len)

abbrev pub has_array : MemoryView → Range → Bool
has_array m range = ends_in (lengths_of m.arrays) range

-- What every memory keeps: each block's range ends in its array.
abbrev pub AllFit : MemoryView → Type 0
AllFit m = (d n : ℕ) (b : Made) → find_block (held_blocks m d) n ≡ Some b → ends_in (lengths_of m.arrays) b.range ≡ true

-- The block is there, and each cell of this range is one of its own.
pub record HasRange (bs : List Made) (block : ℕ) (range : Range) : Type 0 where
  pub whole_range : Range
  pub held : find_block bs block ≡ Some (record { block = block; range = whole_range })
  pub inside : Includes whole_range range

-- So of each block that a loop uses.
abbrev pub HasRanges : List Made → List Use → Type 0
HasRanges bs uses = All (λ (u : Use). HasRange bs u.0 u.1) uses

-- When an operation may be performed on a device: a block that is made isn't there, and its range ends in its array; a block
-- that is copied, released or used by a loop is there.
abbrev pub MayPerform : MemoryView → ℕ → OpLabel → Type 0
MayPerform m device (Make r b) =
    (find_block (held_blocks m device) b ≡ None) × (has_array m r ≡ true)
MayPerform m device (CopyIn r b) = HasRange (held_blocks m device) b r
MayPerform m device (CopyOut r b) = HasRange (held_blocks m device) b r
MayPerform m device (Release b) = is_some (find_block (held_blocks m device) b) ≡ true
MayPerform m device (Run k uses) = HasRanges (held_blocks m device) uses
MayPerform m device (Await q n) = Unit {0}
MayPerform m device Close = Unit {0}

abbrev pub is_within : Option Made → Range → Bool
is_within None range = false
is_within (Some b) range = range_contains b.range range

-- The blocks are as an operation needs them: what it makes isn't there, and what it copies, releases or uses is, with the range
-- among its own cells.
abbrev pub finds_blocks : List Made → OpLabel → Bool
finds_blocks bs (Make r b) = not (is_some (find_block bs b))
finds_blocks bs (CopyIn r b) = is_within (find_block bs b) r
finds_blocks bs (CopyOut r b) = is_within (find_block bs b) r
finds_blocks bs (Release b) = is_some (find_block bs b)
finds_blocks bs (Run k uses) = list_all (λ (u : Use). is_within (find_block bs u.0) u.1) uses
finds_blocks bs (Await q n) = true
finds_blocks bs Close = true

-- So an operation may be: a block that is made has its cells, all zero, and a loop has its cells.
abbrev pub IsAllowed : MemoryView → ℕ → Op → Type 0
IsAllowed m device t = MayPerform m device (op_label t) × IsReady t

-- An operation was performed on a device: the memory shows its effect, and nothing else changed.
pub record PerformsOn (device : ℕ) (op : OpLabel) (old new : MemoryView) : Type 0 where
  pub shows : (was : Cell → ℤ) → Shows old was → Shows new (after_op device op was)
  pub blocks : SameBlocks (held_blocks new device) (blocks_after op (held_blocks old device))
  pub others : (d : ℕ) → (d ≡ device → ⊥) → held_blocks new d ≡ held_blocks old d
  pub made : (b : ℕ) → was_made_on new device b ≡ (is_made_by b op || was_made_on old device b)
  pub others_made : (d : ℕ) → (d ≡ device → ⊥) → (b : ℕ) → was_made_on new d b ≡ was_made_on old d b
  pub lengths : lengths_of new.arrays ≡ lengths_of old.arrays
  pub devices : length new.devices ≡ length old.devices

-- So many of the source's cells, from one index on, stand in the target from another on.
pub record IsCopy (source old new : List ℤ) (from at count : ℕ) : Type 0 where
  pub cells : (k : ℕ)
      → slice_get new k ≡ (if nat_le at k && nat_lt k (at + count) then slice_get source (k - at + from) else slice_get old k)
  pub len : length new ≡ length old
