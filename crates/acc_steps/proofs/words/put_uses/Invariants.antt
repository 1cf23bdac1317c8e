use Rattle.std.proofs.Common.{take}
use Rattle.std.specs.List.{flat_map}
use Rattle.acc_script.specs.Arrays.{texts}
use Rattle.acc_report.specs.Puts.{Puts, sink}
use Rattle.acc_steps.specs.Lines.{use_text}
use Rattle.acc_steps.proofs.words.put_uses.Given as goal

abbrev pub invariant-loop-used : goal.invariant-loop-used
invariant-loop-used g l =
    Puts (sink (g.W.Write.contents l.fn.out) l.fn.failed) (sink (g.W.Write.contents l.out) l.failed)
    (flat_map (use_text (texts l.names)) (take l.used-index l.uses))
