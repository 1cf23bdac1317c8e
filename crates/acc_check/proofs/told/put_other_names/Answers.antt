use Rattle.acc_check.specs.Told.{other_names}
use Rattle.acc_check.proofs.Joined.{joined}
use Rattle.acc_check.proofs.told.put_other_names.Goals as goal

pub returns : goal.returns
unfolding other_names
returns c = joined c.put_answer-2.result _ _ _ _ _ c.in_ok-put_answer.ensures c.put_answer-2.ensures
