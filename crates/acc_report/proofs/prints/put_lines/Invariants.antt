use Rattle.std.proofs.Common.{drop}
use Rattle.acc_report.specs.Puts.{sink}
use Rattle.acc_report.proofs.PrintedLines.{left_text, IsPut}
use Rattle.acc_report.proofs.prints.put_lines.Given as goal

abbrev pub invariant-loop-statement : goal.invariant-loop-statement
invariant-loop-statement g l =
    IsPut (sink (g.W.Write.contents l.fn.out) l.fn.failed) (sink (g.W.Write.contents l.out) l.failed)
    (left_text l.devices l.device (drop l.statement-index l.statements) l.entries)
    (left_text l.devices 0 l.statements l.fn.entries)
