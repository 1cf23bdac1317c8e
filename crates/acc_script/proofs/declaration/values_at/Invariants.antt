use Rattle.std.specs.Prelude.{◌≤◌, length}
use Rattle.acc_token.proofs.Turns.{TurnsLeft}
use Rattle.acc_script.specs.Arrays.{value_turn}
use Rattle.acc_token.specs.Tokens.{spot}
use Rattle.acc_token.specs.Turns.{all_turns}
use Rattle.acc_script.proofs.declaration.values_at.Given as goal

abbrev pub invariant-loop : goal.invariant-loop
invariant-loop l = record {
  turns : TurnsLeft (value_turn l.size) l.turns l.counter l.cells.items (spot l.here) (all_turns (value_turn l.fn.size) l.fn.cells.items (spot l.fn.at));
  few : length l.cells.items ≤ l.size;
  shorter : length l.here.bytes.now ≤ length l.fn.at.bytes.now;
}
