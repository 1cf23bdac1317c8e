use Rattle.std.proofs.Common.{sym}
use Rattle.acc_explore.specs.Spellings.{queue_words}
use Rattle.acc_report.proofs.JoinedPuts.{puts_then}
use Rattle.acc_explore.proofs.schedule.put_queue.Goals as goal

pub returns : goal.returns
unfolding queue_words
returns g c = rw (sym c.number.ensures) (puts_then c.put_number.ensures (puts_then c.put.ensures c.put_queue_name.ensures))
