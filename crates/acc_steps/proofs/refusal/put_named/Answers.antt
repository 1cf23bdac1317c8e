use Rattle.acc_report.proofs.JoinedPuts.{puts_then}
use Rattle.acc_steps.specs.Lines.{named_text}
use Rattle.acc_steps.proofs.refusal.put_named.Goals as goal

pub returns : goal.returns
unfolding named_text
returns g c = puts_then c.put.ensures c.put_range.ensures
