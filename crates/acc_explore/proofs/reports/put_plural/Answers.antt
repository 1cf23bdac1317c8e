use Rattle.acc_report.proofs.JoinedPuts.{puts_then}
use Rattle.acc_explore.proofs.reports.put_plural.Goals as goal

pub returns : goal.returns
returns g c =
    let end = rw c.plural_end.ensures at c.put-2.ensures in
    puts_then c.put.ensures end
