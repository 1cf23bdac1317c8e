use Rattle.std.proofs.Common.{map}
use Rattle.std.specs.List.{flat_map}
use Rattle.acc_place.specs.Plans.{standing_in}
use Rattle.acc_present.specs.Presences.{presences}
use Rattle.acc_present.specs.Tables.{entry_presence}
use Rattle.acc_report.specs.Puts.{Puts, Sink, sink}
use Rattle.acc_script.specs.Arrays.{texts}
use Rattle.acc_report.specs.Lines.{presence_text}
use Rattle.acc_report.proofs.run.put_device.Given as goal

-- who puts the lines of the entries that are left has put all
abbrev pub invariant-loop-entry : goal.invariant-loop-entry
invariant-loop-entry g l =
    let text = presence_text (texts l.names) l.device in
    (goal.iterator-loop-entry g).can_next l.entry-iterator ×
    (goal.iterator-loop-entry g).is_finite l.entry-iterator ×
    ((s : Sink) → Puts (sink (g.W.Write.contents l.out) l.failed) s (flat_map text (map entry_presence l.entry-iterator))
    → Puts (sink (g.W.Write.contents l.fn.out) l.fn.failed) s (flat_map text (presences ((standing_in l.place).marks l.device))))
