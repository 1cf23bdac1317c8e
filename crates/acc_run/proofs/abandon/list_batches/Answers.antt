use Rattle.std.proofs.Common.{◌++◌, arith}
use Rattle.std.specs.Prelude.{map}
use Rattle.acc_batch.specs.Labels.{ops_of}
use Rattle.acc_run.specs.inner.Discarding.{discarded}
use Rattle.acc_run.proofs.Discards.{batch_listed}
use Rattle.acc_run.proofs.abandon.list_batches.Goals as goal

pub loop-label-preserved : goal.loop-label-preserved
loop-label-preserved c =
    let before = c.args.list.now.items ++ map (discarded c.args.at) (ops_of c.args.labels.now) in
    batch_listed c.args.at before c.loop-label.list.items c.list_ops.new.list.items c.args.labels.now c.loop-label.label-index c.label-item.result c.label-item.is (omega arith)
    (rw (c.as_slice.ensures, c.get.ensures) at c.in_ok-list_ops.ensures.listed) c.loop-label.invariant
