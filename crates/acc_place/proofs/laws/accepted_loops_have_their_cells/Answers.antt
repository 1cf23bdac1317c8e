use Rattle.acc_place.proofs.LoopCells.{labels_have}
use Rattle.acc_place.proofs.laws.accepted_loops_have_their_cells.Goals as goal

pub returns : goal.returns
returns c = labels_have
