use Rattle.std.proofs.Common.{reverse, take}
use Rattle.acc_report.specs.Puts.{sink}
use Rattle.acc_explore.specs.Origins.{setting_from}
use Rattle.acc_explore.specs.inner.Telling.{IsTally, told_of}
use Rattle.acc_explore.proofs.reports.tell_ends.Given as goal

abbrev pub invariant-loop-end : goal.invariant-loop-end
invariant-loop-end g l =
    IsTally (setting_from l.origin) l.form l.origin.schedule.now (told_of (setting_from l.origin) (reverse l.arrivals) (take l.end-index l.ends)) l.tally
    (sink (g.W.Write.contents l.fn.out) l.fn.failed) (sink (g.W.Write.contents l.out) l.failed)
