use Rattle.acc_report.proofs.RetoldHistory.{IsTold}
use Rattle.acc_report.proofs.retold.retell.Given as goal

abbrev pub invariant-loop-entry : goal.invariant-loop-entry
invariant-loop-entry l = IsTold l.fn.config l.places l.counts l.entry-index l.place l.left
