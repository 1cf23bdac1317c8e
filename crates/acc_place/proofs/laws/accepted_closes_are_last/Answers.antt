use Rattle.acc_place.proofs.LastClose.{closes_last}
use Rattle.acc_place.proofs.laws.accepted_closes_are_last.Goals as goal

pub returns : goal.returns
returns c = closes_last
