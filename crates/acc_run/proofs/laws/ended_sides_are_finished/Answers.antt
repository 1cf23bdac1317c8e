use Rattle.acc_run.proofs.LegalRun.{ended_finished}
use Rattle.acc_run.proofs.laws.ended_sides_are_finished.Goals as goal

pub returns : goal.returns
returns c = ended_finished
