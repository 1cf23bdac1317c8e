use Rattle.std.proofs.Common.{◌≡◌, true}
use Rattle.acc_place.specs.Closing.{left_open}
use Rattle.acc_place.specs.Plans.{standing_in}
use Rattle.acc_run.specs.PlaceSides.{ClosedFrom}
use Rattle.acc_run.proofs.place_side.PlaceSide.close.Given as goal

abbrev pub invariant-loop-index : goal.invariant-loop-index
invariant-loop-index g l = record {
  from : ClosedFrom l.initial.self l.self l.index;
  closing : (standing_in l.self.place).closing ≡ true;
  remaining : l.remaining ≡ left_open (standing_in l.self.place) l.index;
}
