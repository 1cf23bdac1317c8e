use Rattle.acc_report.proofs.JoinedPuts.{puts_then}
use Rattle.acc_explore.proofs.reports.put_line.Goals as goal

pub returns : goal.returns
returns g c =
    let whole = rw c.whole_text.ensures at c.put-3.ensures in
    puts_then c.put_number.ensures (puts_then c.put_plural.ensures (puts_then c.put.ensures (puts_then c.put_number-2.ensures
    (puts_then c.put_plural-2.ensures (puts_then c.put-2.ensures whole)))))
