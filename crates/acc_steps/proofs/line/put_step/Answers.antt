use Rattle.std.proofs.Common.{◌≡◌, ◌&&◌, true, false, sym, ap, ◌∙◌}
use Rattle.std.specs.Prelude.{not}
use Rattle.acc_report.proofs.JoinedPuts.{puts_then}
use Rattle.acc_steps.specs.Lines.{did_nothing, step_text}
use Rattle.acc_steps.proofs.line.put_step.Goals as goal
use Rattle.acc_steps.proofs.line.put_step.Goals.{else-is_nothing-via-then-is_nothing+else-not-telling, else-is_nothing-via-else-is_nothing}

pub returns : goal.returns
unfolding step_text
returns g c =
    let idle = c.args.telling.now.idle in
    let told : (did_nothing c.args.deed.now && not idle) ≡ false = elim c.else-is_nothing.branch [
      | else-is_nothing-via-then-is_nothing+else-not-telling w ↦
          ap (λ t. t && not idle) (sym c.is_nothing.ensures ∙ w.if-is_nothing.true) ∙ ap (λ t. true && not t) w.if-not-telling.false
      | else-is_nothing-via-else-is_nothing w ↦ ap (λ t. t && not idle) (sym c.is_nothing.ensures ∙ w.if-is_nothing.false)
    ] in
    rw told (puts_then c.put_head.ensures (puts_then c.put_statement.ensures (puts_then c.put_deed.ensures c.put.ensures)))
