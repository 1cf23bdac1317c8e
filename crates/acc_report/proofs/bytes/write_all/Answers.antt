use Rattle.std.proofs.Common.{Err, ap, ◌∙◌}
use Rattle.acc_report.specs.declared.bytes.ReportFault.TheVariants.{Write}
use Rattle.acc_report.proofs.JoinedPuts.{appends_nothing, appends_kept, written_front, kept_then}
use Rattle.acc_report.proofs.bytes.write_all.Goals as goal
use Rattle.acc_report.proofs.bytes.write_all.Goals.{in-Ok, in-Err+else-ne}

pub returns-in-Ok-eq0 : goal.returns-in-Ok-eq0
returns-in-Ok-eq0 g c =
    c.loop.invariant.completes (g.W.Write.contents c.write.new.self) (Err Write) (c.in-Ok-eq0.field-0, c.in-Ok-eq0.ensures.bytes)

pub returns-then-ne : goal.returns-then-ne
returns-then-ne g c =
    c.loop.invariant.completes (g.W.Write.contents c.write.new.self) (Err Write) (0, appends_kept _ _ c.in-Err.ensures.bytes)

pub loop-preserved : goal.loop-preserved
loop-preserved g c = record {
  completes = λ last result writes. c.loop.invariant.completes last result (elim c.match-write.branch [
    | in-Ok w ↦ written_front w.in-Ok.taken _ _ last result _ _ (ap (λ r. r.now) w.rest-is ∙ w.split_at.ensures.back) w.in-Ok.ensures.bytes writes
    | in-Err+else-ne w ↦ kept_then _ _ last result _ w.in-Err.ensures.bytes (rw w.rest-is at writes)
  ]);
}

pub returns : goal.returns
returns g c = c.loop.invariant.completes (g.W.Write.contents c.loop.out) (Err Write) (0, appends_nothing _)
