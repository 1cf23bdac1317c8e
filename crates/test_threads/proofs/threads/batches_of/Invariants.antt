use Rattle.std.specs.List.{All}
use Rattle.acc_queue.specs.Tied.{IsFor}
use Rattle.test_threads.specs.Here.{here}
use Rattle.test_threads.proofs.threads.batches_of.Given as goal

abbrev pub invariant-loop-number : goal.invariant-loop-number
invariant-loop-number l = All (IsFor here) l.batches.items
