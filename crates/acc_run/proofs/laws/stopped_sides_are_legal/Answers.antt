use Rattle.acc_run.proofs.LegalRun.{stopped_legal}
use Rattle.acc_run.proofs.laws.stopped_sides_are_legal.Goals as goal

pub returns : goal.returns
returns c = stopped_legal
