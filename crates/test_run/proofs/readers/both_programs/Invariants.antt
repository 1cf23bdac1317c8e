use Rattle.std.proofs.Common.{◌≡◌, length}
use Rattle.acc_host.specs.Hosts.{AreNumbered}
use Rattle.test_run.proofs.readers.both_programs.Given as goal

abbrev pub invariant-loop-host : goal.invariant-loop-host
invariant-loop-host l = record {
  numbered : AreNumbered 0 l.programs.items;
  count : length l.programs.items ≡ l.host;
}
