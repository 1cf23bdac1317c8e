use Rattle.std.specs.Prelude.{◌≤◌, length}
use Rattle.acc_base.specs.declared.config.TheConstants.{MAX_HOSTS}
use Rattle.acc_host.specs.Hosts.{AreNumbered}
use Rattle.acc_token.proofs.Turns.{TurnsLeft}
use Rattle.acc_script.specs.Scripts.{host_turn}
use Rattle.acc_token.specs.Tokens.{spot}
use Rattle.acc_token.specs.Turns.{all_turns}
use Rattle.acc_script.proofs.script.hosts_at.Given as goal

abbrev pub invariant-loop : goal.invariant-loop
invariant-loop l = record {
  turns : TurnsLeft (host_turn l.arrays) l.turns l.counter l.programs.items (spot l.here) (all_turns (host_turn l.fn.arrays) l.fn.programs.items (spot l.fn.at));
  numbered : AreNumbered 0 l.programs.items;
  few : length l.programs.items ≤ MAX_HOSTS;
}
