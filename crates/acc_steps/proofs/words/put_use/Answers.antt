use Rattle.acc_steps.specs.Lines.{use_text}
use Rattle.acc_report.proofs.JoinedPuts.{puts_then}
use Rattle.acc_steps.proofs.words.put_use.Goals as goal

pub returns : goal.returns
unfolding use_text
returns g c =
    let block = rw c.number.ensures at c.put_number.ensures in
    puts_then c.put.ensures (puts_then c.put_range.ensures (puts_then c.put-2.ensures block))
