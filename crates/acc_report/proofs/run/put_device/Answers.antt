use Rattle.std.proofs.Common.{map, sym, subst}
use Rattle.std.specs.List.{flat_map}
use Rattle.acc_present.specs.Tables.{entry_presence}
use Rattle.acc_script.specs.Arrays.{texts}
use Rattle.acc_report.specs.Lines.{presence_text}
use Rattle.acc_report.specs.Puts.{Puts, sink}
use Rattle.acc_report.specs.inner.Standing.{present_text}
use Rattle.acc_report.proofs.JoinedPuts.{puts_nothing, puts_then}
use Rattle.acc_report.proofs.run.put_device.Goals as goal

pub loop-entry-preserved : goal.loop-entry-preserved
loop-entry-preserved g c =
    let text = presence_text (texts c.args.names.now) c.args.device in let now = sink (g.W.Write.contents c.loop-entry.out) c.loop-entry.failed in
    (tt, tt, λ s rest. c.loop-entry.invariant.2 s (subst (λ l. Puts now s (flat_map text (map entry_presence l))) (sym c.in-Some.ensures.steps) (puts_then c.put_presence.ensures rest)))

pub returns : goal.returns
unfolding present_text
returns g c =
    let text = presence_text (texts c.args.names.now) c.args.device in let now = sink (g.W.Write.contents c.loop-entry.out) c.loop-entry.failed in
    c.loop-entry.invariant.2 now (subst (λ l. Puts now now (flat_map text (map entry_presence l))) (sym c.in-None.ensures.steps.0) (puts_nothing now))
