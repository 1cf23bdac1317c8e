use Rattle.std.proofs.Common.{◌≡◌, drop}
use Rattle.acc_place.specs.Implicit.{item_of, items_around}
use Rattle.acc_place.proofs.loops.item_around.Given as goal

abbrev pub invariant-loop-region : goal.invariant-loop-region
invariant-loop-region l =
    item_of l.array (items_around l.host l.device (drop l.region-index l.regions)) ≡ item_of l.array (items_around l.host l.device l.regions)
