use Rattle.acc_work.proofs.GreatestWhole.{whole_is}
use Rattle.acc_work.proofs.laws.whole_is_greatest.Goals as goal

pub returns : goal.returns
returns c = whole_is
