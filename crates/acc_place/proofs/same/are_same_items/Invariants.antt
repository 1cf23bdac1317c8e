use Rattle.std.proofs.Common.{◌≡◌, take}
use Rattle.acc_place.proofs.same.are_same_items.Given as goal

abbrev pub invariant-loop-index : goal.invariant-loop-index
invariant-loop-index l = take l.index l.items ≡ take l.index l.others
