use Rattle.acc_token.proofs.Turns.{TurnsLeft}
use Rattle.acc_script.specs.Arrays.{array_turn}
use Rattle.acc_token.specs.Tokens.{spot}
use Rattle.acc_token.specs.Turns.{all_turns}
use Rattle.acc_script.proofs.declaration.arrays_at.Given as goal

abbrev pub invariant-loop : goal.invariant-loop
invariant-loop l = TurnsLeft array_turn l.turns l.counter l.arrays (spot l.here) (all_turns array_turn l.fn.arrays (spot l.fn.at))
