use Rattle.acc_report.proofs.JoinedPuts.{puts_then}
use Rattle.acc_explore.proofs.reports.put_ending.Goals as goal

pub returns-in-Whole : goal.returns-in-Whole
returns-in-Whole g c =
    rw c.in-Whole.is
    (puts_then c.put.ensures (puts_then c.put_number.ensures (puts_then c.put-in-Whole.ensures (puts_then c.put_going_on.ensures
    (puts_then c.put-in-Whole-2.ensures (puts_then c.put_number-in-Whole.ensures (puts_then c.put-in-Whole-3.ensures c.put-in-Whole-4.ensures)))))))
