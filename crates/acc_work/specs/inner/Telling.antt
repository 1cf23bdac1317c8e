-- What recording an item does, over the memory alone. Only private contracts and proofs cite it.
use Rattle.std.specs.Prelude.{◌≡◌, ◌≤◌, Bool, true, false, ℤ, List}
use Rattle.acc_base.specs.Configurations.{lengths_of}
use Rattle.acc_base.specs.declared.config.TheConstants.{MAX_CELLS}
use Rattle.acc_batch.specs.declared.entry.Told.{Told}
use Rattle.acc_batch.specs.declared.entry.Told.TheVariants as told
use Rattle.acc_memory.specs.Memories.{MemoryView, Shows, has_array}
use Rattle.acc_memory.specs.Values.{Cell, values_of}
use Rattle.acc_work.specs.Logs.{after_item, all_done}
use Rattle.acc_work.specs.Works.{WorkView, taken_labels}
use Rattle.acc_work.specs.declared.item.ItemLabel.{ItemLabel}
use Rattle.acc_work.specs.declared.item.ItemLabel.TheVariants as to_record

-- the cells of a write and of a print are there
abbrev pub HasItsCells : MemoryView → ItemLabel → Type 0
HasItsCells m (to_record.Write array cell value) = has_array m (record { array = array; lo = cell; len = 1 }) ≡ true
HasItsCells m (to_record.Print range) = (has_array m range ≡ true) × (range.len ≤ MAX_CELLS)
HasItsCells m (to_record.Seen device counts) = Unit {0}
HasItsCells m (to_record.Test device counts) = Unit {0}

-- what a test is answered; false where an item asks nothing
abbrev pub answer_to : WorkView → ItemLabel → Bool
answer_to w (to_record.Test device counts) = all_done (taken_labels w) w.work device 0 counts
answer_to w item = false

-- what the log is to tell of an item, with the answer to a test
abbrev pub IsTold : MemoryView → ItemLabel → Bool → Told → Type 0
IsTold m (to_record.Write array cell value) answer what = what ≡ told.Write array cell value
IsTold m (to_record.Print range) answer what =
    (values : List ℤ) × (what ≡ told.Print range values) × ((was : Cell → ℤ) → Shows m was → values ≡ values_of was range)
IsTold m (to_record.Seen device counts) answer what = what ≡ told.Seen device counts
IsTold m (to_record.Test device counts) answer what = what ≡ told.Test device answer counts

-- the memory shows what was written, if anything was, and nothing else changed
pub record HasChanged (old : MemoryView) (what : Told) (new : MemoryView) : Type 0 where
  pub shows : (was : Cell → ℤ) → Shows old was → Shows new (after_item what was)
  pub devices : new.devices ≡ old.devices
  pub lengths : lengths_of new.arrays ≡ lengths_of old.arrays
