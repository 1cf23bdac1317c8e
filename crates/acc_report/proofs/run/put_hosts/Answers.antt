use Rattle.acc_report.specs.Reports.{left_after, nth_host_text}
use Rattle.acc_report.proofs.JoinedPuts.{puts_below}
use Rattle.acc_report.proofs.run.put_hosts.Goals as goal

pub loop-host-preserved : goal.loop-host-preserved
loop-host-preserved g c =
    puts_below (nth_host_text (left_after c.args.run.now) c.args.programs.now) c.loop-host.host c.loop-host.invariant c.put_nth_host.ensures
