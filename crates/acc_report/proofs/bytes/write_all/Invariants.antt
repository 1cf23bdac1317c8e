use Rattle.std.proofs.Common.{ℕ, List, Option, Result}
use Rattle.acc_report.specs.declared.bytes.ReportFault.{ReportFault}
use Rattle.acc_report.specs.Puts.{Writes}
use Rattle.acc_report.proofs.bytes.write_all.Given as goal

-- Who writes the rest has written all.
abbrev pub invariant-loop : goal.invariant-loop
invariant-loop g l = record {
  completes : (last : Option (List ℕ)) (result : Result Unit ReportFault) → Writes (g.W.Write.contents l.out) last result l.rest → Writes (g.W.Write.contents l.fn.out) last result l.fn.bytes;
}
