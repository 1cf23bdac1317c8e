use Rattle.std.proofs.Common.{◌≤◌, drop}
use Rattle.acc_explore.specs.Spellings.{lines_from}
use Rattle.acc_report.specs.Puts.{sink}
use Rattle.acc_schedule.specs.declared.turn.TheConstants.{MAX_TIMES}
use Rattle.acc_explore.proofs.SpelledPuts.{IsPutUpTo}
use Rattle.acc_explore.proofs.schedule.put_lines.Given as goal

abbrev pub invariant-loop-next : goal.invariant-loop-next
invariant-loop-next g l = record {
  few : l.times ≤ MAX_TIMES;
  puts : IsPutUpTo (sink (g.W.Write.contents l.fn.out) l.fn.failed) (sink (g.W.Write.contents l.out) l.failed)
      (lines_from l.fn.first 1 l.others) (lines_from l.event l.times (drop l.next-index l.others));
}
