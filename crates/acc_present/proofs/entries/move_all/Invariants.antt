use Rattle.std.proofs.Common.{◌≡◌, ◌+◌, length}
use Rattle.acc_present.proofs.entries.move_all.Given as goal

abbrev pub invariant-loop-node : goal.invariant-loop-node
invariant-loop-node l = length l.to + length l.from ≡ length l.fn.to + length l.fn.from

abbrev pub decreases-loop-node : goal.decreases-loop-node
decreases-loop-node l = length l.from
