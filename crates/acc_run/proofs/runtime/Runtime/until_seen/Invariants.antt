use Rattle.std.proofs.Common.{◌≡◌}
use Rattle.acc_run.proofs.runtime.Runtime.until_seen.Given as goal

abbrev pub invariant-loop : goal.invariant-loop
invariant-loop g l = record {
  token : l.token ≡ l.fn.token;
}
