use Rattle.acc_report.proofs.JoinedPuts.{puts_then}
use Rattle.acc_steps.proofs.SourceLines.{replicate_more}
use Rattle.acc_steps.proofs.head.put_spaces.Goals as goal

pub loop-preserved : goal.loop-preserved
loop-preserved g c = rw (replicate_more c.loop.counter 32) (puts_then c.loop.invariant c.put.ensures)
