use Rattle.acc_steps.specs.Lines.{queue_at_text}
use Rattle.acc_report.proofs.JoinedPuts.{puts_then}
use Rattle.acc_steps.proofs.head.put_queue.Goals as goal

pub returns : goal.returns
unfolding queue_at_text
returns g c =
    let device = rw c.number.ensures at c.put_number.ensures in
    puts_then c.put.ensures (puts_then device (puts_then c.put-2.ensures c.put_queue_name.ensures))
