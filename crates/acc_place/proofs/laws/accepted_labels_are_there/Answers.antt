use Rattle.acc_place.proofs.LabelsThere.{labels_there}
use Rattle.acc_place.proofs.laws.accepted_labels_are_there.Goals as goal

pub returns : goal.returns
returns c = labels_there
