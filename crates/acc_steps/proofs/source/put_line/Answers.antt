use Rattle.std.proofs.Common.{◌≡◌, ap, ◌∙◌}
use Rattle.acc_steps.specs.Lines.{behind_pragma, code_in, unindented}
use Rattle.acc_steps.proofs.source.put_line.Goals as goal

pub returns : goal.returns
returns g c =
    let text : c.behind_pragma.result.now ≡ behind_pragma (code_in (unindented c.args.line.now)) =
    c.behind_pragma.ensures ∙ ap behind_pragma (c.code_in.ensures ∙ ap code_in c.unindented.ensures) in
    rw text at c.put_shown.ensures
