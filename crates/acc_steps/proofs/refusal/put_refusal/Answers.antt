use Rattle.acc_report.proofs.JoinedPuts.{puts_then}
use Rattle.acc_steps.specs.Lines.{refused_text}
use Rattle.acc_steps.proofs.refusal.put_refusal.Goals as goal

pub returns : goal.returns
unfolding refused_text
returns g c =
    let number = rw c.number.ensures at c.put_number.ensures in
    let name = rw (c.as_bytes.ensures.value, c.name.ensures) at c.put-3.ensures in
    let reason = rw c.host_in.ensures at c.put_reason.ensures in
    puts_then c.put.ensures (puts_then number (puts_then c.put-2.ensures (puts_then name reason)))
