use Rattle.std.proofs.Common.{length}
use Rattle.acc_run.proofs.hosts.+run_hosts.Given as goal

abbrev pub decreases-run_hosts : goal.decreases-run_hosts
decreases-run_hosts g l = length l.hosts.now.items
