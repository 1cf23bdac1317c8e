use Rattle.std.proofs.Common.{◌≡◌, ◌++◌, map}
use Rattle.std.specs.List.{range_with_len}
use Rattle.acc_host.specs.declared.event.Event.TheVariants.{Host}
use Rattle.acc_schedule.proofs.turn.push_hosts.Given as goal

abbrev pub invariant-loop-host : goal.invariant-loop-host
invariant-loop-host l = l.events.items ≡ l.fn.events.items ++ map Host (range_with_len 0 l.host)
