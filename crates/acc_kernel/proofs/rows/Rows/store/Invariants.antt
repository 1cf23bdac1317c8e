use Rattle.std.proofs.Common.{◌≡◌, drop}
use Rattle.acc_kernel.specs.Jobs.{stored}
use Rattle.acc_kernel.proofs.rows.Rows.store.Given as goal

abbrev pub invariant-loop-place : goal.invariant-loop-place
invariant-loop-place g l =
    (g.W.Window.has l.window ≡ g.W.Window.has l.fn.window) × g.W.Window.keeps l.fn.window l.window
    × (stored (drop l.place l.self.uses) (drop l.place l.self.rows) (g.W.Window.cells l.window) ≡ stored l.self.uses l.self.rows (g.W.Window.cells l.fn.window))
