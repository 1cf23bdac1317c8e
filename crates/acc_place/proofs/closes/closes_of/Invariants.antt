use Rattle.std.proofs.Common.{◌≡◌, ◌<◌, length}
use Rattle.acc_base.specs.declared.ids.QueueAt.{QueueAt}
use Rattle.acc_base.specs.declared.ids.TheConstants.{QUEUES}
use Rattle.acc_base.specs.Queues.{seat}
use Rattle.acc_place.specs.inner.Places.{close_in, new_close}
use Rattle.acc_place.proofs.closes.closes_of.Given as goal

abbrev pub invariant-loop-index : goal.invariant-loop-index
invariant-loop-index l = record {
  count : length l.closes.items ≡ l.index;
  new : (at : QueueAt) → at.queue < QUEUES → seat at < l.index → close_in l.closes.items at ≡ new_close at;
}
