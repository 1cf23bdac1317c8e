use Rattle.std.proofs.Common.{◌≡◌, true, false, length}
use Rattle.std.proofs.lemmas.Bool.{le-ltb, lt-ltb}
use Rattle.acc_report.proofs.JoinedPuts.{puts_then}
use Rattle.acc_report.specs.Totals.{has_plain_ops, plain_ops}
use Rattle.acc_steps.proofs.line.put_host.Goals as goal

pub returns-then-plain_ops-gt0 : goal.returns-then-plain_ops-gt0
returns-then-plain_ops-gt0 g c =
    let label = c.in-Some.label.now in
    let number = rw c.number.ensures at c.put_number.ensures in
    let plain : has_plain_ops label ≡ true = lt-ltb 0 (length (plain_ops label.ops)) (rw (c.plain_ops.ensures, c.as_slice.ensures, c.get.ensures) at c.if-plain_ops-gt0.true) in
    rw (c.in-Some.is, plain) (puts_then c.put.ensures number)

pub returns-else-plain_ops-gt0 : goal.returns-else-plain_ops-gt0
returns-else-plain_ops-gt0 g c =
    let label = c.in-Some.label.now in
    let close : has_plain_ops label ≡ false = le-ltb 0 (length (plain_ops label.ops)) (rw (c.plain_ops.ensures, c.as_slice.ensures, c.get.ensures) at c.if-plain_ops-gt0.false) in
    rw (c.in-Some.is, close) c.put-else-plain_ops-gt0.ensures
