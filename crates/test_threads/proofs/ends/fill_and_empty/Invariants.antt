use Rattle.std.proofs.Common.{◌≡◌}
use Rattle.test_threads.specs.Here.{here}
use Rattle.test_threads.proofs.ends.fill_and_empty.Given as goal

abbrev pub invariant-loop-number : goal.invariant-loop-number
invariant-loop-number g l = l.sender.at ≡ here
