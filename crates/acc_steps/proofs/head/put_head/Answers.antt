use Rattle.acc_report.proofs.JoinedPuts.{puts_then}
use Rattle.acc_steps.specs.Lines.{head_text}
use Rattle.acc_steps.proofs.head.put_head.Goals as goal

pub returns : goal.returns
unfolding head_text
returns g c =
    let first = rw (c.saturating_sub.ensures, c.digits.ensures.value) at c.put_spaces.ensures in
    let second = rw (c.saturating_sub-2.ensures, c.digits-2.ensures.value, c.from.ensures) at c.put_spaces-2.ensures in
    let third = rw (c.saturating_sub-3.ensures, c.who_len.ensures) at c.put_spaces-3.ensures in
    puts_then first (puts_then c.put_number.ensures (puts_then c.put.ensures (puts_then c.put_number-2.ensures (puts_then second (puts_then c.put_who.ensures third)))))
