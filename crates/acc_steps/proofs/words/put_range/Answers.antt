use Rattle.acc_steps.specs.Lines.{range_text}
use Rattle.acc_report.proofs.JoinedPuts.{puts_then}
use Rattle.acc_steps.proofs.words.put_range.Goals as goal

pub returns : goal.returns
unfolding range_text
returns g c =
    let name = rw c.name_at.ensures at c.put.ensures in
    puts_then name (puts_then c.put-2.ensures (puts_then c.put_number.ensures (puts_then c.put-3.ensures (puts_then c.put_number-2.ensures c.put-4.ensures))))
