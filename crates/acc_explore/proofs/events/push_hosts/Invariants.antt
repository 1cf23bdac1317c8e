use Rattle.std.proofs.Common.{◌≡◌, ◌++◌, reverse}
use Rattle.acc_explore.specs.Runs.{events_of_hosts}
use Rattle.acc_explore.proofs.events.push_hosts.Given as goal

abbrev pub invariant-loop-host : goal.invariant-loop-host
invariant-loop-host l = l.events.items ≡ l.initial.events.items ++ reverse (events_of_hosts l.host)
