use Rattle.std.proofs.Common.{◌≡◌, ◌++◌}
use Rattle.std.specs.List.{flat_map, range_with_len}
use Rattle.acc_schedule.specs.Schedules.{queue_turn}
use Rattle.acc_schedule.proofs.turn.push_device.Given as goal

abbrev pub invariant-loop-queue : goal.invariant-loop-queue
invariant-loop-queue l = l.events.items ≡ l.fn.events.items ++ flat_map (λ q. queue_turn (record { device = l.device; queue = q })) (range_with_len 0 l.queue)
