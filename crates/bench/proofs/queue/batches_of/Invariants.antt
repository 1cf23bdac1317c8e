use Rattle.std.specs.List.{All}
use Rattle.acc_queue.specs.Tied.{IsFor}
use Rattle.bench.specs.Here.{here}
use Rattle.bench.proofs.queue.batches_of.Given as goal

abbrev pub invariant-loop-number : goal.invariant-loop-number
invariant-loop-number l = All (IsFor here) l.batches.items
