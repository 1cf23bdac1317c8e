use Rattle.std.proofs.Common.{◌≡◌, take}
use Rattle.acc_batch.proofs.same.are_same_ops.Given as goal

abbrev pub invariant-loop-index : goal.invariant-loop-index
invariant-loop-index l = take l.index l.ops ≡ take l.index l.others
