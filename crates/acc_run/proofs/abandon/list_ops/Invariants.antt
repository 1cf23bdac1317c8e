use Rattle.std.proofs.Common.{◌≡◌, ◌++◌, take}
use Rattle.std.specs.Prelude.{map}
use Rattle.acc_run.specs.inner.Discarding.{discarded}
use Rattle.acc_run.proofs.abandon.list_ops.Given as goal

abbrev pub invariant-loop-op : goal.invariant-loop-op
invariant-loop-op l = l.list.items ≡ l.fn.list.items ++ map (discarded l.fn.at) (take l.op-index l.ops)
