use Rattle.std.proofs.Common.{◌+◌}
use Rattle.acc_report.specs.Lines.{each_below}
use Rattle.acc_report.specs.Puts.{Puts, sink}
use Rattle.acc_steps.specs.Lines.{cell_text}
use Rattle.acc_steps.proofs.words.put_cells.Given as goal

abbrev pub invariant-loop-index : goal.invariant-loop-index
invariant-loop-index g l =
    Puts (sink (g.W.Write.contents l.fn.out) l.fn.failed) (sink (g.W.Write.contents l.out) l.failed)
    (each_below l.index (λ i. cell_text l.world l.range.array (l.range.lo + i)))
