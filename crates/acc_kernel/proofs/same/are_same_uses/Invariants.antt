use Rattle.std.proofs.Common.{◌≡◌, take}
use Rattle.acc_kernel.proofs.same.are_same_uses.Given as goal

abbrev pub invariant-loop-index : goal.invariant-loop-index
invariant-loop-index l = take l.index l.uses ≡ take l.index l.others
