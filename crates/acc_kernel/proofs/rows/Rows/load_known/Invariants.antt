use Rattle.std.proofs.Common.{◌≡◌, ℕ, ◌<◌, true, [], length, get_or}
use Rattle.acc_kernel.specs.Jobs.{no_use, cell_in, is_used, values_shown}
use Rattle.acc_kernel.specs.inner.RowTables.{IsStored}
use Rattle.acc_kernel.proofs.rows.Rows.load_known.Given as goal

abbrev pub invariant-loop-place : goal.invariant-loop-place
invariant-loop-place l =
    IsStored l.self-inside.uses.items l.self-inside.places.items l.self-inside.rows.items × (l.self-inside.uses.items ≡ l.fn.self.uses)
    × ((place : ℕ) → place < l.place → is_used l.source.uses (get_or l.fn.self.uses place no_use).1.array ≡ true
    → get_or l.self-inside.rows.items place [] ≡ values_shown (cell_in l.source.uses l.source.rows) (get_or l.fn.self.uses place no_use).1)
