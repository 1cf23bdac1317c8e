-- An entry that is lent to be changed.
use Rattle.std.specs.Prelude.{ℕ, slice_set}
use Rattle.acc_present.specs.declared.entry.Entry.{Entry}
use Rattle.acc_present.specs.inner.Invariants.{EntriesView}

-- the same with e as the i-th entry
abbrev pub with_entry : EntriesView → ℕ → Entry → EntriesView
with_entry v i e = record v { items = slice_set v.items i e }
