use Rattle.std.proofs.Common.{◌≡◌, true, false, sym, ◌∙◌}
use Rattle.acc_present.specs.Presences.{is_partly_present}
use Rattle.acc_report.proofs.JoinedPuts.{puts_then}
use Rattle.acc_steps.specs.Lines.{held_on, present_on, standing_text}
use Rattle.acc_steps.proofs.refusal.put_stand.Goals as goal

pub returns-then-is_partly_present : goal.returns-then-is_partly_present
unfolding standing_text
returns-then-is_partly_present g c =
    let partly : is_partly_present (present_on c.args.world.now c.args.device) c.args.range ≡ true = sym c.is_partly_present.ensures ∙ c.if-is_partly_present.true in
    rw partly (puts_then c.put_named.ensures c.put.ensures)

pub returns-else-is_partly_present : goal.returns-else-is_partly_present
unfolding standing_text
returns-else-is_partly_present g c =
    let other : is_partly_present (present_on c.args.world.now c.args.device) c.args.range ≡ false = sym c.is_partly_present.ensures ∙ c.if-is_partly_present.false in
    rw other (puts_then c.put_named.ensures (c.put_counters.ensures (held_on c.args.world.now c.args.device c.args.range) c.held_on.ensures))
