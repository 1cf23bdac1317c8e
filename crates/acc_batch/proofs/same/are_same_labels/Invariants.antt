use Rattle.std.proofs.Common.{◌≡◌, take}
use Rattle.acc_batch.proofs.same.are_same_labels.Given as goal

abbrev pub invariant-loop-index : goal.invariant-loop-index
invariant-loop-index l = take l.index l.labels ≡ take l.index l.others
