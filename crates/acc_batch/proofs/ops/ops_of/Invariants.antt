use Rattle.std.proofs.Common.{◌≡◌, ◌++◌, reverse}
use Rattle.acc_batch.specs.Ops.{op_labels, AllReady}
use Rattle.acc_batch.proofs.ops.ops_of.Given as goal

-- the operations of the labels that were met, which are the last ones
abbrev pub invariant-loop-label : goal.invariant-loop-label
invariant-loop-label l = record {
  met : l.labels ≡ l.label-iterator.iter.rest.now ++ op_labels (reverse l.ops);
  ready : AllReady (reverse l.ops);
}
