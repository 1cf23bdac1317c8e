use Rattle.acc_report.specs.Lines.{state_text}
use Rattle.acc_report.proofs.line.put_state.Goals as goal

pub returns-in-Running : goal.returns-in-Running
unfolding state_text
returns-in-Running g c = rw c.in-Running.is c.put.ensures
