use Rattle.std.specs.Prelude.{◌≤◌, length}
use Rattle.acc_token.proofs.Turns.{TurnsLeft}
use Rattle.acc_script.specs.Clauses.{clause_turn}
use Rattle.acc_token.specs.Tokens.{spot}
use Rattle.acc_token.specs.Turns.{all_turns}
use Rattle.acc_script.specs.inner.Kept.{IsKept}
use Rattle.acc_script.proofs.clause.clauses_at.Given as goal

abbrev pub invariant-loop : goal.invariant-loop
invariant-loop l = record {
  turns : TurnsLeft (clause_turn l.arrays l.head) l.turns l.counter l.clauses (spot l.here) (all_turns (clause_turn l.fn.arrays l.fn.head) l.fn.clauses (spot l.fn.at));
  kept : IsKept l.head l.clauses;
  shorter : length l.here.bytes.now ≤ length l.fn.at.bytes.now;
}
