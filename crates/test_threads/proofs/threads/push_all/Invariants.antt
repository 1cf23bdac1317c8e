use Rattle.std.proofs.Common.{◌≡◌}
use Rattle.std.specs.List.{All}
use Rattle.acc_queue.specs.Tied.{IsFor}
use Rattle.test_threads.specs.Here.{here}
use Rattle.test_threads.proofs.threads.push_all.Given as goal

abbrev pub invariant-loop : goal.invariant-loop
invariant-loop g l = record {
  sender : l.sender.at ≡ here;
  batches : All (IsFor here) l.batches.items;
}
