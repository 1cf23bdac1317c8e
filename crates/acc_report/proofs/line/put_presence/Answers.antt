use Rattle.acc_report.specs.Lines.{presence_text}
use Rattle.acc_report.proofs.JoinedPuts.{puts_then}
use Rattle.acc_report.proofs.line.put_presence.Goals as goal

pub returns : goal.returns
unfolding presence_text
returns g c =
    let device = rw c.number.ensures at c.put_number.ensures in
    let name = rw c.name_at.ensures at c.put-3.ensures in
    puts_then c.put.ensures (puts_then device (puts_then c.put-2.ensures (puts_then name (puts_then c.put-4.ensures (puts_then c.put_number-2.ensures (puts_then c.put-5.ensures (puts_then c.put_number-3.ensures (puts_then c.put-6.ensures (puts_then c.put_number-4.ensures (puts_then c.put-7.ensures (puts_then c.put_number-5.ensures c.put-8.ensures)))))))))))
