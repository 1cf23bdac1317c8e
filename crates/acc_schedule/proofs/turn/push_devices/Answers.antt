use Rattle.acc_schedule.specs.Schedules.{device_turn}
use Rattle.acc_schedule.proofs.RepeatedTurns.{flat_map-more}
use Rattle.acc_schedule.proofs.turn.push_devices.Goals as goal

pub loop-device-preserved : goal.loop-device-preserved
loop-device-preserved c = let more = flat_map-more device_turn c.args.events.now.items c.loop-device.device in cc (more, c.in_ok-push_device.ensures)
