use Rattle.acc_report.proofs.JoinedPuts.{puts_then}
use Rattle.acc_steps.proofs.words.put_batch_of.Goals as goal

pub returns : goal.returns
returns g c = puts_then c.put_number.ensures (puts_then c.put.ensures c.put_queue.ensures)
