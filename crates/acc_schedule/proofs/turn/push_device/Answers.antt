use Rattle.acc_schedule.specs.Schedules.{queue_turn}
use Rattle.acc_schedule.proofs.RepeatedTurns.{flat_map-more}
use Rattle.acc_schedule.proofs.turn.push_device.Goals as goal

pub loop-queue-preserved : goal.loop-queue-preserved
loop-queue-preserved c = let more = flat_map-more (λ q. queue_turn (record { device = c.args.device; queue = q })) c.args.events.now.items c.loop-queue.queue in cc (more, c.in_ok-push_queue.ensures)
