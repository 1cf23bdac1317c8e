use Rattle.std.proofs.Common.{◌≡◌}
use Rattle.std.specs.List.{All}
use Rattle.acc_queue.specs.Tied.{IsFor}
use Rattle.bench.specs.Here.{here}
use Rattle.bench.proofs.queue.send_round.Given as goal

abbrev pub invariant-loop : goal.invariant-loop
invariant-loop g l = record {
  sender : l.sender.at ≡ here;
  back : l.back.at ≡ here;
  batches : All (IsFor here) l.batches.items;
}
