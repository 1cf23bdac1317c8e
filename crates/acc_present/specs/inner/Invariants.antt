-- What every table keeps.
use Rattle.std.specs.Prelude.{◌≡◌, ℕ, ◌+◌, ◌≤◌, true, List, length}
use Rattle.acc_raw.specs.Indices.{IndexedView}
use Rattle.acc_present.specs.declared.entry.Entry.{Entry}
use Rattle.acc_present.specs.Presences.{Presence, used_cells}
use Rattle.acc_present.specs.Tables.{is_table}

pub record IsTable (ps : List Presence) (used capacity : ℕ) : Type 0 where
  pub table : is_table ps ≡ true
  pub counted : used ≡ used_cells ps
  pub within : used_cells ps ≤ capacity

-- entries in their order, the key of each, and how many there is room for
pub record EntriesView : Type 0 where
  pub items : List Entry
  pub keys : List ℕ
  pub room : ℕ

-- The nodes are those of the entries and the spare ones, and there is room to name each.
pub record HasNodes (listed : IndexedView Entry) (spare : List Entry) (room : ℕ) : Type 0 where
  pub all : room ≡ length listed.items + length spare
  pub named : room ≤ listed.room
