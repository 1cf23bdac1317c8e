use Rattle.std.proofs.Common.{◌≡◌, length}
use Rattle.acc_run.specs.Tokens.{AreTokens}
use Rattle.acc_run.proofs.token.tokens_of.Given as goal

abbrev pub invariant-loop-host : goal.invariant-loop-host
invariant-loop-host l = record {
  tokens : AreTokens 0 l.tokens.items;
  count : length l.tokens.items ≡ l.host;
  reader : l.reader ≡ l.fn.reader;
}
