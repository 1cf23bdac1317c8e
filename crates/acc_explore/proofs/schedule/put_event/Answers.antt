use Rattle.std.proofs.Common.{sym}
use Rattle.acc_explore.specs.Spellings.{event_words}
use Rattle.acc_report.proofs.JoinedPuts.{puts_then}
use Rattle.acc_explore.proofs.schedule.put_event.Goals as goal

pub returns-in-Host : goal.returns-in-Host
unfolding event_words
returns-in-Host g c = rw (c.in-Host.is, sym c.number.ensures) (puts_then c.put.ensures c.put_number.ensures)

pub returns-in-Take : goal.returns-in-Take
unfolding event_words
returns-in-Take g c = rw c.in-Take.is (puts_then c.put-in-Take.ensures c.put_queue.ensures)

pub returns-in-Perform : goal.returns-in-Perform
unfolding event_words
returns-in-Perform g c = rw c.in-Perform.is (puts_then c.put-in-Perform.ensures c.put_queue-in-Perform.ensures)
