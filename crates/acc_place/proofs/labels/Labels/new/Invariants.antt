use Rattle.std.proofs.Common.{◌≡◌, ◌<◌, [], length}
use Rattle.std.specs.Prelude.{All, vec_capacity}
use Rattle.acc_place.proofs.labels.Labels.new.Given as goal

abbrev pub invariant-loop : goal.invariant-loop
invariant-loop l = record {
  count : length l.queues.items ≡ l.counter;
  none : All (λ labels. labels.items ≡ []) l.queues.items;
  roomy : All (λ labels. 0 < vec_capacity labels) l.queues.items;
}
