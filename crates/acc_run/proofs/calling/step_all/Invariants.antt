use Rattle.std.proofs.Common.{◌≡◌}
use Rattle.acc_run.proofs.GoingHosts.{Going}
use Rattle.acc_run.proofs.calling.step_all.Given as goal

abbrev pub invariant-loop : goal.invariant-loop
invariant-loop g l = record {
  devices : l.calling.devices ≡ l.fn.calling.devices;
  host : l.calling.host ≡ l.fn.calling.host;
  going : Going l.fn.calling.devices l.fn.host l.fn.calling.entries l.host l.calling.entries;
}
