use Rattle.acc_report.specs.Reports.{host_text}
use Rattle.acc_report.proofs.JoinedPuts.{puts_then}
use Rattle.acc_report.proofs.run.put_host.Goals as goal

pub returns : goal.returns
unfolding host_text
returns g c =
    let devices = rw c.config.ensures at c.devices-devices.ensures in
    let ended = rw c.as_slice.ensures at c.ended_of-ended.ensures in
    let entries = rw c.new.ensures at c.new-entries.ensures in
    let printed = rw (devices, ended, entries) at c.put_lines.ensures in
    puts_then c.put.ensures (puts_then c.put_number.ensures (puts_then c.put-2.ensures (puts_then printed c.put_state.ensures)))
