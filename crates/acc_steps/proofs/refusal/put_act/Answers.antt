use Rattle.std.proofs.Common.{◌∙◌}
use Rattle.acc_report.proofs.JoinedPuts.{puts_then}
use Rattle.acc_steps.specs.Lines.{limit_text}
use Rattle.acc_steps.proofs.refusal.put_act.Goals as goal

pub returns-in-Place : goal.returns-in-Place
unfolding limit_text
returns-in-Place g c =
    let items = c.as_slice.ensures ∙ c.items.ensures in
    rw c.in-Place.is (puts_then (rw items at c.put_items.ensures) c.put_limit.ensures)
