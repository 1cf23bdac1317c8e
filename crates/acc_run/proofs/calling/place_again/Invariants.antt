use Rattle.std.proofs.Common.{◌≡◌}
use Rattle.acc_run.proofs.calling.place_again.Given as goal

abbrev pub invariant-loop : goal.invariant-loop
invariant-loop g l = record {
  host : l.token.host ≡ l.fn.token.host;
  entries : l.token.entries ≡ l.fn.token.entries;
}
