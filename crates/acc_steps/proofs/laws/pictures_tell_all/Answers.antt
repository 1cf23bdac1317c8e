use Rattle.acc_steps.proofs.DrawnSteps.{pictures_tell_all}
use Rattle.acc_steps.proofs.laws.pictures_tell_all.Goals as goal

pub returns : goal.returns
returns c = pictures_tell_all
