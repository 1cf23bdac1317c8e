use Rattle.std.proofs.Common.{◌≡◌, length}
use Rattle.acc_present.proofs.entries.nodes.Given as goal

abbrev pub invariant-loop : goal.invariant-loop
invariant-loop l = length l.nodes ≡ l.counter
