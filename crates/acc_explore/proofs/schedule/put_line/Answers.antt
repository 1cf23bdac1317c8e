use Rattle.acc_explore.specs.Spellings.{event_line}
use Rattle.acc_report.proofs.JoinedPuts.{puts_then}
use Rattle.acc_explore.proofs.schedule.put_line.Goals as goal

pub returns : goal.returns
unfolding event_line
returns g c = puts_then c.put_event.ensures (puts_then c.put_times.ensures c.put.ensures)
