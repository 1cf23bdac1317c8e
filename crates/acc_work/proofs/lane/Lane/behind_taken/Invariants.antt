use Rattle.std.proofs.Common.{◌≡◌, drop, length}
use Rattle.acc_work.proofs.lane.Lane.behind_taken.Given as goal

abbrev pub invariant-loop-taken : goal.invariant-loop-taken
invariant-loop-taken l = drop (length l.self.taken) l.labels ≡ drop (length l._taken-iterator) l.behind
