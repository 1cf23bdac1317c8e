use Rattle.std.proofs.Common.{◌≡◌, ℕ, ◌<◌, [], get_or}
use Rattle.acc_kernel.specs.Jobs.{no_use, values_shown}
use Rattle.acc_kernel.specs.inner.RowTables.{IsStored}
use Rattle.acc_kernel.proofs.rows.Rows.load.Given as goal

abbrev pub invariant-loop-place : goal.invariant-loop-place
invariant-loop-place g l =
    IsStored l.self-inside.uses.items l.self-inside.places.items l.self-inside.rows.items × (l.self-inside.uses.items ≡ l.fn.self.uses)
    × ((place : ℕ) → place < l.place → get_or l.self-inside.rows.items place [] ≡ values_shown (g.W.Window.cells l.window) (get_or l.fn.self.uses place no_use).1)
