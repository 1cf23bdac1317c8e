use Rattle.std.specs.Prelude.{◌≤◌, length}
use Rattle.acc_token.proofs.Turns.{TurnsLeft}
use Rattle.acc_script.specs.Expressions.{names}
use Rattle.acc_script.specs.Loops.{assign_turn}
use Rattle.acc_token.specs.Tokens.{spot}
use Rattle.acc_token.specs.Turns.{all_turns}
use Rattle.acc_script.proofs.loops.assigns_at.Given as goal

abbrev pub invariant-loop : goal.invariant-loop
invariant-loop l = record {
  turns : TurnsLeft (assign_turn (names l.arrays l.index)) l.turns l.counter l.assigns.items (spot l.here) (all_turns (assign_turn (names l.fn.arrays l.fn.index)) l.fn.assigns.items (spot l.fn.at));
  shorter : length l.here.bytes.now ≤ length l.fn.at.bytes.now;
}
