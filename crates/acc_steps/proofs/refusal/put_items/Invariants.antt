use Rattle.std.proofs.Common.{take}
use Rattle.std.specs.List.{flat_map}
use Rattle.acc_script.specs.Arrays.{texts}
use Rattle.acc_place.specs.declared.directive.DataItem.{DataItem}
use Rattle.acc_report.specs.Puts.{Puts, sink}
use Rattle.acc_steps.specs.Lines.{standing_text}
use Rattle.acc_steps.proofs.refusal.put_items.Given as goal

abbrev pub invariant-loop-item : goal.invariant-loop-item
invariant-loop-item g l =
    Puts (sink (g.W.Write.contents l.fn.out) l.fn.failed) (sink (g.W.Write.contents l.out) l.failed)
    (flat_map (λ (i : DataItem). standing_text (texts l.names) l.world l.device i.range) (take l.item-index l.items))
