use Rattle.acc_steps.specs.Lines.{who_text}
use Rattle.acc_report.proofs.JoinedPuts.{puts_then}
use Rattle.acc_steps.proofs.head.put_who.Goals as goal

pub returns-in-Host : goal.returns-in-Host
unfolding who_text
returns-in-Host g c =
    let number = rw c.number.ensures at c.put_number.ensures in
    rw c.in-Host.is (puts_then c.put.ensures number)
