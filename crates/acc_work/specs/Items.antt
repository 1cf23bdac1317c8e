-- How a host's item is kept, and what the host gets back.
use Rattle.std.specs.Prelude.{ℤ, ◌≤◌, ◌*◌, Bool, true, false, min, List, [], vec_capacity}
use Rattle.acc_base.specs.Configurations.{has_range}
use Rattle.acc_base.specs.declared.config.TheConstants.{MAX_CELLS}
use Rattle.acc_work.specs.declared.item.Form.{Form}
use Rattle.acc_work.specs.declared.item.Form.TheVariants as form
use Rattle.acc_work.specs.declared.item.ItemLabel.{ItemLabel}
use Rattle.acc_work.specs.declared.item.ItemLabel.TheVariants as to_record
use Rattle.acc_work.specs.declared.item.Shown.{Shown}
use Rattle.acc_work.specs.declared.item.Shown.TheVariants as shown
use Rattle.acc_batch.specs.declared.entry.Told.{Told}
use Rattle.acc_batch.specs.declared.entry.Told.TheVariants as told

-- what an item is made to do
abbrev pub label_of : Form → ItemLabel
label_of (form.Write array cell new_value) = to_record.Write array cell new_value
label_of (form.Print range room values) = to_record.Print range
label_of (form.Seen device counts) = to_record.Seen device counts
label_of (form.Test device counts) = to_record.Test device counts

-- the cells of an item are there
abbrev pub has_cells : List (List ℤ) → ItemLabel → Bool
has_cells arrays (to_record.Write array cell new_value) = has_range arrays (record { array = array; lo = cell; len = 1 })
has_cells arrays (to_record.Print range) = has_range arrays range
has_cells arrays (to_record.Seen device counts) = true
has_cells arrays (to_record.Test device counts) = true

-- A print has no values yet, and room for as many as an array can have of its range, of eight bytes each.
abbrev pub HasRoom : Form → Type 0
HasRoom (form.Write array cell new_value) = Unit {0}
HasRoom (form.Print range room values) = min range.len MAX_CELLS * 8 ≤ vec_capacity room
HasRoom (form.Seen device counts) = Unit {0}
HasRoom (form.Test device counts) = Unit {0}

-- what the host gets back
abbrev pub shown_by : Told → Shown
shown_by (told.Write array cell new_value) = shown.Nothing
shown_by (told.Print range values) = shown.Nothing
shown_by (told.Seen device counts) = shown.Nothing
shown_by (told.Test device answer counts) = shown.Answer answer

-- what a log tells of an item, without the values of a print: these are told to no host
abbrev pub without_values : Told → Told
without_values (told.Write array cell new_value) = told.Write array cell new_value
without_values (told.Print range values) = told.Print range []
without_values (told.Seen device counts) = told.Seen device counts
without_values (told.Test device answer counts) = told.Test device answer counts

-- the answer that a host got back from a test; false where it got nothing
abbrev pub test_answer : Shown → Bool
test_answer shown.Nothing = false
test_answer (shown.Answer answer) = answer

-- an item as its host knows it: by what it was to do, and what the host got back
abbrev pub known_by : ItemLabel → Shown → Told
known_by (to_record.Write array cell new_value) got = told.Write array cell new_value
known_by (to_record.Print range) got = told.Print range []
known_by (to_record.Seen device counts) got = told.Seen device counts
known_by (to_record.Test device counts) got = told.Test device (test_answer got) counts
