use Rattle.acc_place.proofs.LabelsSound.{labels_sound}
use Rattle.acc_place.proofs.laws.accepted_labels_are_sound.Goals as goal

pub returns : goal.returns
returns c = labels_sound
