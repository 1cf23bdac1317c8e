use Rattle.std.proofs.Common.{◌≡◌, take, map}
use Rattle.acc_memory.proofs.memory.arrays_of.Given as goal

abbrev pub invariant-loop-n : goal.invariant-loop-n
invariant-loop-n l = map (λ v. v.items) l.arrays.items ≡ take l.n l.config.arrays
