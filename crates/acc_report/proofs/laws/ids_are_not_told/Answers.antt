use Rattle.acc_report.proofs.BarePrograms.{ids_are_not_told}
use Rattle.acc_report.proofs.laws.ids_are_not_told.Goals as goal

pub returns : goal.returns
returns c = ids_are_not_told
