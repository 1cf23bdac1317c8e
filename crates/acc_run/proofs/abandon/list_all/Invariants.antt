use Rattle.std.proofs.Common.{◌≡◌}
use Rattle.acc_run.specs.inner.Discarding.{discards}
use Rattle.acc_run.proofs.abandon.list_all.Given as goal

abbrev pub invariant-loop-index : goal.invariant-loop-index
invariant-loop-index l = l.list.items ≡ discards l.place l.work l.index
