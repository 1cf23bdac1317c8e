use Rattle.acc_explore.specs.inner.Leaves.{HaveLeaves}
use Rattle.acc_explore.proofs.prefixes.push_leaves.Given as goal

abbrev pub invariant-loop-number : goal.invariant-loop-number
invariant-loop-number l = HaveLeaves l.first l.number l.initial.numbers.items l.numbers.items
