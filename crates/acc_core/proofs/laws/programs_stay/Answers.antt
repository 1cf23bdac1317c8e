use Rattle.acc_core.proofs.KeptPrograms.{runs_kept}
use Rattle.acc_core.proofs.laws.programs_stay.Goals as goal

pub returns : goal.returns
returns c = runs_kept
