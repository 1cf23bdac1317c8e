use Rattle.std.proofs.Common.{◌≡◌, ◌++◌, drop}
use Rattle.std.specs.Prelude.{map}
use Rattle.acc_batch.specs.Labels.{ops_of}
use Rattle.acc_run.specs.inner.Discarding.{discarded}
use Rattle.acc_run.proofs.abandon.list_batches.Given as goal

abbrev pub invariant-loop-label : goal.invariant-loop-label
invariant-loop-label l = l.list.items ++ map (discarded l.fn.at) (ops_of (drop l.label-index l.labels)) ≡ l.fn.list.items ++ map (discarded l.fn.at) (ops_of l.labels)
