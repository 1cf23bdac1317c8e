use Rattle.std.proofs.Common.{take}
use Rattle.std.specs.List.{flat_map}
use Rattle.acc_script.specs.Arrays.{texts}
use Rattle.acc_report.specs.Puts.{Puts, sink}
use Rattle.acc_steps.specs.Lines.{item_text}
use Rattle.acc_steps.proofs.words.put_entry.Given as goal

abbrev pub invariant-loop-item : goal.invariant-loop-item
invariant-loop-item g l =
    Puts (sink (g.W.Write.contents l.fn.out) l.fn.failed) (sink (g.W.Write.contents l.out) l.failed)
    (flat_map (item_text (texts l.names) l.world l.directive.device) (take l.item-index l.directive.items))
