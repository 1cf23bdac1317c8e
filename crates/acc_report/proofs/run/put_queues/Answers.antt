use Rattle.acc_place.specs.Plans.{standing_in}
use Rattle.acc_report.specs.inner.Standing.{counted_text}
use Rattle.acc_report.proofs.JoinedPuts.{puts_below}
use Rattle.acc_report.proofs.run.put_queues.Goals as goal

pub loop-device-preserved : goal.loop-device-preserved
loop-device-preserved g c =
    puts_below (counted_text (standing_in c.args.place.now) c.args.counted.now) c.loop-device.device c.loop-device.invariant (rw c.new.ensures at c.put_queues_of.ensures)
