use Rattle.std.proofs.Common.{◌≡◌, arith}
use Rattle.acc_base.specs.declared.ids.TheConstants.{QUEUES}
use Rattle.acc_place.specs.Plans.{standing_in}
use Rattle.acc_report.specs.inner.Standing.{counted_queue_text, counted_text}
use Rattle.acc_report.proofs.JoinedPuts.{puts_below}
use Rattle.acc_report.proofs.run.put_queues_of.Goals as goal

pub loop-queue-preserved : goal.loop-queue-preserved
loop-queue-preserved g c =
    puts_below (λ q. counted_queue_text (standing_in c.args.place.now) c.args.counted.now (record { device = c.args.device; queue = q })) c.loop-queue.queue
    c.loop-queue.invariant (rw c.new-queue.ensures at c.put_queue.ensures)

pub returns : goal.returns
unfolding counted_text
returns g c =
    let end : c.loop-queue.queue ≡ QUEUES = omega arith in
    rw end at c.loop-queue.invariant
