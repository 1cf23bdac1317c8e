-- What recording an item does over the memory, and so to a work side.
use Rattle.std.proofs.Common.{ℕ, zero, suc, ◌≡◌, ◌+◌, ◌≤◌, true, List, ◌∷◌, length, refl, ap}
use Rattle.std.specs.Prelude.{ℤ, All}
use Rattle.acc_base.specs.declared.config.TheConstants.{MAX_CELLS}
use Rattle.acc_batch.specs.declared.entry.Told.{Told}
use Rattle.acc_batch.specs.declared.entry.WorkEntry.TheVariants as entry
use Rattle.acc_memory.specs.Memories.{MemoryView}
use Rattle.acc_memory.specs.Values.{values_from}
use Rattle.acc_work.specs.declared.item.ItemLabel.{ItemLabel}
use Rattle.acc_work.specs.declared.item.ItemLabel.TheVariants as to_record
use Rattle.acc_work.specs.Items.{has_cells}
use Rattle.acc_work.specs.Remembering.{Remembers}
use Rattle.acc_work.specs.Works.{WorkView, CanTell, HasTold, IsReached, Tells}
use Rattle.acc_work.specs.inner.Telling.{HasChanged, IsTold, answer_to}
use Rattle.acc_work.proofs.RemembersWork.{has_same, no_longer}

-- An item can be told where its cells are there, and what it notes as performed is.
pub can_tell : (w : WorkView) (item : ItemLabel) → Remembers w.arrays w.work w.memory → All (λ (cells : List ℤ). (1 ≤ length cells) × (length cells ≤ MAX_CELLS)) w.arrays → IsReached w item → has_cells w.arrays item ≡ true → CanTell w item
can_tell w (to_record.Write array cell new_value) m limits reached there = has_same w.memory w.arrays (record { array = array; lo = cell; len = 1 }) m.lengths there
can_tell w (to_record.Print range) m limits reached there = (has_same w.memory w.arrays range m.lengths there, no_longer w.arrays range MAX_CELLS limits there)
can_tell w (to_record.Seen device counts) m limits reached there = reached
can_tell w (to_record.Test device counts) m limits reached there = tt

-- with the answer that the work side gives an item tells what it should
pub tells_it : (w : WorkView) (item : ItemLabel) (what : Told) → IsTold w.memory item (answer_to w item) what → Tells w item what
tells_it w (to_record.Write array cell new_value) what h = h
tells_it w (to_record.Print range) what h = h
tells_it w (to_record.Seen device counts) what h = h
tells_it w (to_record.Test device counts) what h = h

-- the memory changed, and the entry joined the log
pub told_with : (w : WorkView) (memory : MemoryView) (host : ℕ) (what : Told) → HasChanged w.memory what memory → HasTold w (record w { memory = memory; work = entry.Item host what ∷ w.work }) host what
told_with w memory host what h = record { opening = refl; shows = h.shows; devices = h.devices; lengths = h.lengths; work = refl; lanes = refl }

-- a range has as many values as cells
pub length_from : (at : ℕ → ℤ) (lo len : ℕ) → length (values_from at lo len) ≡ len
length_from at lo zero = refl
length_from at lo (suc len) = ap suc (length_from at (lo + 1) len)
