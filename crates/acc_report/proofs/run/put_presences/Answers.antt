use Rattle.acc_place.specs.Plans.{standing_in}
use Rattle.acc_script.specs.Arrays.{texts}
use Rattle.acc_report.specs.inner.Standing.{present_text}
use Rattle.acc_report.proofs.JoinedPuts.{puts_below}
use Rattle.acc_report.proofs.run.put_presences.Goals as goal

pub loop-device-preserved : goal.loop-device-preserved
loop-device-preserved g c =
    puts_below (present_text (texts c.args.names.now) (standing_in c.args.place.now)) c.loop-device.device c.loop-device.invariant (rw c.new.ensures at c.put_device.ensures)
