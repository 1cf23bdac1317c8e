use Rattle.acc_report.proofs.JoinedPuts.{puts_then}
use Rattle.acc_explore.proofs.prefixes.put_count.Goals as goal

pub returns : goal.returns
returns g c = puts_then c.put_number.ensures (puts_then (rw c.prefix_word.ensures at c.put.ensures) (rw c.depth_text.ensures at c.put-2.ensures))
