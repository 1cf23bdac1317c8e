use Rattle.std.proofs.Common.{◌≡◌}
use Rattle.acc_explore.proofs.items.are_same_values.Given as goal

abbrev pub invariant-loop-value : goal.invariant-loop-value
invariant-loop-value l = l.value-iterator ≡ l.left → l.values ≡ l.others
