use Rattle.std.proofs.Common.{replicate}
use Rattle.acc_report.specs.Puts.{Puts, sink}
use Rattle.acc_steps.proofs.head.put_spaces.Given as goal

abbrev pub invariant-loop : goal.invariant-loop
invariant-loop g l =
    Puts (sink (g.W.Write.contents l.fn.out) l.fn.failed) (sink (g.W.Write.contents l.out) l.failed) (replicate l.counter 32)
