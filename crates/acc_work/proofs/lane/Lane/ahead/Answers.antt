use Rattle.std.proofs.Common.{sym}
use Rattle.acc_batch.proofs.FirstLoop.{first_has_its_cells}
use Rattle.acc_work.proofs.lane.Lane.ahead.Goals as goal

pub new-requires-clause-distinct : goal.new-requires-clause-distinct
new-requires-clause-distinct c =
    (first_has_its_cells c.self.inside.left c.in_ok-kernel.kernel.now c.in_ok-kernel.uses.now c.self.invariant.0 (sym c.in_ok-kernel.ensures)).0

pub new-requires-clause-reached : goal.new-requires-clause-reached
new-requires-clause-reached c =
    (first_has_its_cells c.self.inside.left c.in_ok-kernel.kernel.now c.in_ok-kernel.uses.now c.self.invariant.0 (sym c.in_ok-kernel.ensures)).1
