use Rattle.std.proofs.Common.{◌≡◌}
use Rattle.acc_queue.specs.Tied.{IsFor}
use Rattle.test_threads.specs.Here.{here}
use Rattle.test_threads.proofs.threads.push.Given as goal

abbrev pub invariant-loop : goal.invariant-loop
invariant-loop g l = record {
  next : (goal.iterator-loop g).can_next l.iterator';
  finite : (goal.iterator-loop g).is_finite l.iterator';
  sender : l.sender.at ≡ here;
  batch : IsFor here l.left;
}
