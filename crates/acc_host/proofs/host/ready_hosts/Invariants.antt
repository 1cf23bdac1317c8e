use Rattle.std.proofs.Common.{◌≡◌, ◌≤◌, ◌++◌, length, map}
use Rattle.std.specs.Prelude.{vec_capacity}
use Rattle.acc_host.specs.Hosts.{ready}
use Rattle.acc_host.proofs.host.ready_hosts.Given as goal

abbrev pub invariant-loop-program : goal.invariant-loop-program
invariant-loop-program l = record {
  rest : l.fn.programs.items ≡ l.yielded ++ l.program-iterator.rest.items;
  made : l.hosts.items ≡ map ready l.yielded;
  room : length l.fn.programs.items ≤ vec_capacity l.hosts;
}
