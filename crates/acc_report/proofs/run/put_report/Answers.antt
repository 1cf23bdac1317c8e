use Rattle.acc_report.specs.Reports.{left_after}
use Rattle.acc_script.specs.Arrays.{texts}
use Rattle.acc_report.proofs.WholeReport.{whole_report}
use Rattle.acc_report.proofs.run.put_report.Goals as goal

pub returns : goal.returns
returns g c =
    let hosts = rw c.as_slice.ensures.value at c.put_hosts.ensures in
    let present = rw c.as_slice-2.ensures.keys at c.put_presences.ensures in
    whole_report (texts c.args.script.now.names.keys) c.args.script.now.programs.items (left_after c.args.run.now) c.args.counted.now c.requires.counted hosts present c.put_queues.ensures c.put.ensures
