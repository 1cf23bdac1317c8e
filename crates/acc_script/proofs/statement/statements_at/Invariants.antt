use Rattle.std.specs.Prelude.{◌+◌, ◌≤◌, ◌<◌, ◌^◌, length}
use Rattle.acc_token.proofs.Turns.{TurnsLeft}
use Rattle.acc_script.specs.Statements.{body, statement_turn}
use Rattle.acc_token.specs.Tokens.{spot}
use Rattle.acc_token.specs.Turns.{all_turns}
use Rattle.acc_script.proofs.statement.statements_at.Given as goal

abbrev pub invariant-loop : goal.invariant-loop
invariant-loop l = record {
  turns : TurnsLeft (statement_turn l.arrays) l.turns l.counter (body l.statements.items l.depth) (spot l.here) (all_turns (statement_turn l.fn.arrays) (body l.fn.statements.items 0) (spot l.fn.at));
  depth : l.depth + length l.here.bytes.now < 2 ^ 32;
  shorter : length l.here.bytes.now ≤ length l.fn.at.bytes.now;
}
