use Rattle.std.proofs.Common.{◌≡◌, ℕ, ◌<◌, [], get_or}
use Rattle.acc_kernel.specs.Jobs.{no_use, values_shown}
use Rattle.acc_kernel.proofs.rows.Rows.are_shown.Given as goal

abbrev pub invariant-loop-place : goal.invariant-loop-place
invariant-loop-place g l =
    (place : ℕ) → place < l.place → get_or l.self.rows place [] ≡ values_shown (g.W.Window.cells l.window) (get_or l.self.uses place no_use).1
