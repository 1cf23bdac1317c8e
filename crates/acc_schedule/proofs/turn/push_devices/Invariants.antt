use Rattle.std.proofs.Common.{◌≡◌, ◌++◌}
use Rattle.std.specs.List.{flat_map, range_with_len}
use Rattle.acc_schedule.specs.Schedules.{device_turn}
use Rattle.acc_schedule.proofs.turn.push_devices.Given as goal

abbrev pub invariant-loop-device : goal.invariant-loop-device
invariant-loop-device l = l.events.items ≡ l.fn.events.items ++ flat_map device_turn (range_with_len 0 l.device)
