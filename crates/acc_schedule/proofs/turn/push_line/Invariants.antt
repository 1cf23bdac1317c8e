use Rattle.std.proofs.Common.{◌≡◌, ◌++◌}
use Rattle.acc_schedule.specs.Schedules.{repeated}
use Rattle.acc_schedule.proofs.turn.push_line.Given as goal

abbrev pub invariant-loop : goal.invariant-loop
invariant-loop l = l.events.items ≡ l.fn.events.items ++ repeated l.counter l.turn
