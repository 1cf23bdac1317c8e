use Rattle.std.proofs.Common.{◌≡◌, false, ◌==◌, arith}
use Rattle.std.proofs.lemmas.Bool.Decides.{nat_tests}
use Rattle.acc_report.specs.Lines.{discarded_text}
use Rattle.acc_report.proofs.JoinedPuts.{puts_then, puts_nothing}
use Rattle.acc_report.proofs.line.put_discarded.Goals as goal

pub returns-then-count-gt0 : goal.returns-then-count-gt0
unfolding discarded_text
returns-then-count-gt0 g c =
    let some : (c.args.count == 0) ≡ false = grind (arith, nat_tests) in
    rw some (puts_then c.put.ensures c.put_number.ensures)

pub returns-else-count-gt0 : goal.returns-else-count-gt0
unfolding discarded_text
returns-else-count-gt0 g c =
    let none : c.args.count ≡ 0 = omega arith in
    rw none (puts_nothing _)
