use Rattle.std.proofs.Common.{◌≡◌, ◌≤◌, ◌++◌, length, map}
use Rattle.std.specs.Prelude.{vec_capacity}
use Rattle.acc_host.specs.Hosts.{HostView, bare_statements, state_of}
use Rattle.acc_core.proofs.world.World.into_parts.Given as goal

abbrev pub invariant-loop-host : goal.invariant-loop-host
invariant-loop-host l = record {
  rest : l.fn.self.hosts ≡ l.yielded ++ l.host-iterator.rest.items;
  told : l.states.items ≡ map state_of l.yielded;
  room : length l.fn.self.hosts ≤ vec_capacity l.states;
  given_back : map bare_statements l.programs.items ≡ map (λ (host : HostView). host.statements) l.yielded;
  count : length l.programs.items ≡ length l.yielded;
  programs_room : length l.fn.self.hosts ≤ vec_capacity l.programs;
}
