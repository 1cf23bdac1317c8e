use Rattle.std.proofs.Common.{rules}
use mir.Syntax.{w64}
use mir.Val.{SFits}
use Rattle.std.proofs.lemmas.Int.{to_z-of_z}
use Rattle.acc_steps.specs.Lines.{cell_text}
use Rattle.acc_report.proofs.JoinedPuts.{puts_then}
use Rattle.acc_steps.proofs.words.put_cell.Goals as goal

pub returns-in-Some : goal.returns-in-Some
unfolding cell_text
returns-in-Some g c =
    let fits : SFits w64 c.in-Some.value = search rules in
    let value = rw (to_z-of_z w64 c.in-Some.value fits, c.in-Some.ensures.value) at c.put_number.ensures in
    rw (← c.in-Some.ensures.there) (puts_then c.put.ensures value)
