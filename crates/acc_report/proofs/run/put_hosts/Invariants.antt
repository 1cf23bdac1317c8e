use Rattle.acc_report.specs.Lines.{each_below}
use Rattle.acc_report.specs.Puts.{Puts, sink}
use Rattle.acc_report.specs.Reports.{left_after, nth_host_text}
use Rattle.acc_report.proofs.run.put_hosts.Given as goal

abbrev pub invariant-loop-host : goal.invariant-loop-host
invariant-loop-host g l =
    Puts (sink (g.W.Write.contents l.fn.out) l.fn.failed) (sink (g.W.Write.contents l.out) l.failed)
    (each_below l.host (nth_host_text (left_after l.run) l.programs))
