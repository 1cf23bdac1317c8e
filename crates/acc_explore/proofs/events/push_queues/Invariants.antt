use Rattle.std.proofs.Common.{◌≡◌, ◌++◌, reverse}
use Rattle.acc_explore.specs.Runs.{events_of_queues}
use Rattle.acc_explore.proofs.events.push_queues.Given as goal

abbrev pub invariant-loop-seat : goal.invariant-loop-seat
invariant-loop-seat l = l.events.items ≡ l.initial.events.items ++ reverse (events_of_queues l.seat)
