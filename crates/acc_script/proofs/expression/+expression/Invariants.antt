use Rattle.std.specs.Prelude.{ℕ, ◌+◌, ◌*◌, ◌≤◌, length}
use Rattle.acc_script.specs.declared.expression.Level.{Level}
use Rattle.acc_script.specs.declared.expression.Level.TheVariants.{Product, Sum, Comparison, Equality}
use Rattle.acc_token.proofs.Turns.{TurnsLeft}
use Rattle.acc_script.specs.Expressions.{names_in, below, unary_at, part_at, chain_turn}
use Rattle.acc_token.specs.Tokens.{spot}
use Rattle.acc_token.specs.Turns.{all_turns}
use Rattle.acc_script.proofs.expression.+expression.Given as goal

abbrev rank : Level → ℕ
rank Product = 0
rank Sum = 1
rank Comparison = 2
rank Equality = 3

abbrev pub decreases-group_of : goal.decreases-group_of
decreases-group_of l = 32 * l.scope.deep

abbrev pub decreases-negated_of : goal.decreases-negated_of
decreases-negated_of l = 32 * l.scope.deep

abbrev pub decreases-choice_of : goal.decreases-choice_of
decreases-choice_of l = 32 * l.scope.deep

abbrev pub decreases-unary_at : goal.decreases-unary_at
decreases-unary_at l = 32 * l.scope.deep + 1

abbrev pub decreases-part_at : goal.decreases-part_at
decreases-part_at l = 32 * l.scope.deep + 4 * rank l.level + 2

abbrev pub decreases-chain_turn : goal.decreases-chain_turn
decreases-chain_turn l = 32 * l.scope.deep + 4 * rank l.level + 3

abbrev pub decreases-parts_at : goal.decreases-parts_at
decreases-parts_at l = 32 * l.scope.deep + 4 * rank l.level + 4

abbrev pub decreases-chain_at : goal.decreases-chain_at
decreases-chain_at l = 32 * l.scope.deep + 4 * rank l.level + 5

abbrev pub decreases-expr_at : goal.decreases-expr_at
decreases-expr_at l = 32 * l.scope.deep + 18

abbrev pub invariant-parts_at-loop : goal.invariant-parts_at-loop
invariant-parts_at-loop l = record {
  turns : TurnsLeft (chain_turn l.level (part_at l.level (unary_at (names_in l.scope) (below l.scope)))) l.turns l.counter l.left (spot l.here)
      (all_turns (chain_turn l.fn.level (part_at l.fn.level (unary_at (names_in l.fn.scope) (below l.fn.scope)))) l.fn.left (spot l.fn.at));
  shorter : length l.here.bytes.now ≤ length l.fn.at.bytes.now;
}
