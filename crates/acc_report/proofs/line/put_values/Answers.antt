use Rattle.acc_report.specs.Lines.{line_text}
use Rattle.acc_report.proofs.line.put_values.Goals as goal

pub returns-in-None : goal.returns-in-None
unfolding line_text
returns-in-None g c = rw c.in-None.ensures.steps.0 c.put.ensures
