use Rattle.std.proofs.Common.{◌≡◌, ◌≤◌, length, map, take}
use Rattle.std.specs.Prelude.{vec_capacity}
use Rattle.acc_host.specs.Hosts.{state_of}
use Rattle.acc_driver.proofs.runs.states_of.Given as goal

abbrev pub invariant-loop-host : goal.invariant-loop-host
invariant-loop-host l = record {
  told : l.states.items ≡ map state_of (take l.host-index l.hosts);
  room : length l.hosts ≤ vec_capacity l.states;
}
