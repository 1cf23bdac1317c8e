use Rattle.std.proofs.Common.{length, arith}
use Rattle.acc_base.proofs.EachQueue.{by_queue}
use Rattle.acc_place.specs.inner.Places.{queue_in}
use Rattle.acc_place.proofs.awaits.all_counts.Goals as goal

pub returns : goal.returns
returns c =
    let i = c.loop-queue.invariant in
    by_queue (λ q. length (queue_in c.args.labels.now.queues (record { device = c.args.device; queue = q }))) c.loop-queue.counts i.0
    (λ q low. i.1 q (omega (arith, low, c.loop-queue-test.false)))
