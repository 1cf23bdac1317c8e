use Rattle.std.proofs.Common.{◌≡◌, length}
use Rattle.std.specs.Prelude.{All}
use Rattle.acc_core.specs.inner.Queues.{QueueView, empty_queue}
use Rattle.acc_core.proofs.queue.queues_of.Given as goal

abbrev pub invariant-loop : goal.invariant-loop
invariant-loop l = record {
  count : length l.queues.items ≡ l.counter;
  empty : All (λ (q : QueueView). q ≡ empty_queue) l.queues.items;
}
