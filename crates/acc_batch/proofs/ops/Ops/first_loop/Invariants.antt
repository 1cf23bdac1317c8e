use Rattle.std.proofs.Common.{◌≡◌, reverse}
use Rattle.acc_batch.specs.Ops.{first_loop, op_labels}
use Rattle.acc_batch.proofs.ops.Ops.first_loop.Given as goal

-- those that were met are no loops
abbrev pub invariant-loop-op : goal.invariant-loop-op
invariant-loop-op l = first_loop (op_labels l.self) ≡ first_loop (op_labels (reverse l.op-iterator.iter.rest.now))
