use Rattle.std.proofs.Common.{◌≡◌}
use Rattle.bench.specs.Here.{here}
use Rattle.bench.proofs.queue.send_back.Given as goal

abbrev pub invariant-loop : goal.invariant-loop
invariant-loop g l = record {
  taker : l.taker.at ≡ here;
  sender : l.sender.at ≡ here;
}
