use Rattle.std.proofs.Common.{◌≡◌, ◌==◌, false, arith}
use Rattle.std.proofs.lemmas.Bool.Decides.{nat_tests}
use Rattle.acc_report.proofs.JoinedPuts.{puts_then}
use Rattle.acc_steps.specs.Lines.{statement_text}
use Rattle.acc_steps.proofs.source.put_statement.Goals as goal

pub returns : goal.returns
unfolding statement_text
returns g c =
    let some : (c.args.line == 0) ≡ false = grind (arith, nat_tests) in
    let line = rw c.line_at.ensures at c.put_line.ensures in
    rw some (puts_then c.put.ensures (puts_then c.put_number.ensures (puts_then c.put-2.ensures line)))
