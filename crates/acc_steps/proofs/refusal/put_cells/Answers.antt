use Rattle.acc_report.proofs.JoinedPuts.{puts_then}
use Rattle.acc_steps.specs.Lines.{cells_text}
use Rattle.acc_steps.proofs.refusal.put_cells.Goals as goal

pub returns : goal.returns
unfolding cells_text
returns g c =
    let used = rw c.used_cells.ensures at c.put_number.ensures in
    let capacity = rw (c.capacity.ensures, c.config.ensures, c.place.ensures.config) at c.put_number-2.ensures in
    puts_then c.put.ensures (puts_then used (puts_then c.put-2.ensures (puts_then capacity c.put-3.ensures)))
