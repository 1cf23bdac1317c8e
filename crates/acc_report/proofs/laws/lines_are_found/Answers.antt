use Rattle.acc_report.proofs.LinesFound.{lines_found}
use Rattle.acc_report.proofs.laws.lines_are_found.Goals as goal

pub returns : goal.returns
returns c = lines_found
