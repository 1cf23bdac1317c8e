use Rattle.acc_batch.specs.Labels.{on_queue}
use Rattle.acc_place.specs.Plans.{standing_in}
use Rattle.acc_report.proofs.PlacedTotals.{AreTotals}
use Rattle.acc_report.proofs.run.placed_on.Given as goal

abbrev pub invariant-loop-index : goal.invariant-loop-index
invariant-loop-index l = AreTotals (on_queue l.fn.at (standing_in l.place).labels) l.index l.batches l.operations
