use Rattle.std.proofs.Common.{◌≡◌, ◌≤◌, drop}
use Rattle.acc_token.specs.Tokens.{value_behind}
use Rattle.acc_token.proofs.word.value_of.Given as goal

abbrev pub invariant-loop-digit : goal.invariant-loop-digit
invariant-loop-digit l = record {
  bounded : l.value ≤ l.limit;
  same : value_behind l.value (drop l.digit-index l.digits) ≡ value_behind 0 l.fn.digits;
}
