use Rattle.acc_report.proofs.JoinedPuts.{puts_then}
use Rattle.acc_explore.proofs.prefixes.put_prefix.Goals as goal

pub returns : goal.returns
returns g c = puts_then c.put.ensures (puts_then c.put_number.ensures (puts_then c.put-2.ensures c.put_going_on.ensures))
