use Rattle.acc_report.proofs.JoinedPuts.{puts_then}
use Rattle.acc_explore.proofs.SpelledSchedules.{goes_behind}
use Rattle.acc_explore.proofs.reports.put_going_on.Goals as goal

pub returns-in-len1-up : goal.returns-in-len1-up
returns-in-len1-up g c =
    rw (goes_behind c.args.schedule.now c.args.events.now c.in-len1-up.len_at_least)
    (puts_then c.put.ensures (puts_then c.put-in-len1-up.ensures c.put_schedule-in-len1-up.ensures))
