use Rattle.acc_report.specs.Lines.{refusal_text}
use Rattle.acc_report.proofs.JoinedPuts.{puts_then}
use Rattle.acc_report.proofs.line.put_refusal.Goals as goal

pub returns : goal.returns
unfolding refusal_text
returns g c =
    let number = rw c.number.ensures at c.put_number-2.ensures in
    let name = rw (c.as_bytes.ensures.value, c.name.ensures) at c.put-4.ensures in
    puts_then c.put.ensures (puts_then c.put_number.ensures (puts_then c.put-2.ensures (puts_then number (puts_then c.put-3.ensures (puts_then name c.put-5.ensures)))))
