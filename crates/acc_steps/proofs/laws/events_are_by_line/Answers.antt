use Rattle.acc_steps.proofs.EventsByLine.{events_are_by_line}
use Rattle.acc_steps.proofs.laws.events_are_by_line.Goals as goal

pub returns : goal.returns
returns c = events_are_by_line
