use Rattle.std.proofs.Common.{◌≡◌, false, ◌==◌, arith}
use Rattle.std.proofs.lemmas.Bool.Decides.{nat_tests}
use Rattle.acc_report.specs.Lines.{totals_text}
use Rattle.acc_report.proofs.JoinedPuts.{puts_then, puts_nothing}
use Rattle.acc_report.proofs.line.put_totals.Goals as goal

pub returns-then-batches-gt0 : goal.returns-then-batches-gt0
unfolding totals_text
returns-then-batches-gt0 g c =
    let some : (c.args.batches == 0) ≡ false = grind (arith, nat_tests) in
    let device = rw c.number.ensures at c.put_number.ensures in
    rw some (puts_then c.put.ensures (puts_then device (puts_then c.put-then-batches-gt0.ensures
    (puts_then c.put_queue_name.ensures (puts_then c.put-then-batches-gt0-2.ensures (puts_then c.put_number-then-batches-gt0.ensures
    (puts_then c.put-then-batches-gt0-3.ensures (puts_then c.put_number-then-batches-gt0-2.ensures (puts_then c.put-then-batches-gt0-4.ensures
    (puts_then c.put_number-then-batches-gt0-3.ensures (puts_then c.put_discarded.ensures c.put-then-batches-gt0-5.ensures)))))))))))

pub returns-else-batches-gt0 : goal.returns-else-batches-gt0
unfolding totals_text
returns-else-batches-gt0 g c =
    let none : c.args.batches ≡ 0 = omega arith in
    rw none (puts_nothing _)
