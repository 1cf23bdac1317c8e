use Rattle.std.proofs.Common.{take}
use Rattle.std.specs.List.{flat_map}
use Rattle.acc_report.specs.Puts.{Puts, sink}
use Rattle.acc_explore.specs.Endings.{in_line}
use Rattle.acc_explore.proofs.reports.put_on_one_line.Given as goal

abbrev pub invariant-loop-byte : goal.invariant-loop-byte
invariant-loop-byte g l =
    Puts (sink (g.W.Write.contents l.fn.out) l.fn.failed) (sink (g.W.Write.contents l.out) l.failed) (flat_map in_line (take l.byte-index l.report))
