use Rattle.acc_report.proofs.JoinedPuts.{puts_then}
use Rattle.acc_steps.specs.Lines.{deed_text}
use Rattle.acc_steps.proofs.line.put_deed.Goals as goal

pub returns-in-Saw : goal.returns-in-Saw
unfolding deed_text
returns-in-Saw g c = rw c.in-Saw.is c.put.ensures

pub returns-in-Printed : goal.returns-in-Printed
unfolding deed_text
returns-in-Printed g c = rw c.in-Printed.is (puts_then c.put-in-Printed.ensures c.put_cells.ensures)

pub returns-in-Tested : goal.returns-in-Tested
unfolding deed_text
returns-in-Tested g c = rw c.in-Tested.is c.put_answer.ensures

pub returns-in-Refused : goal.returns-in-Refused
unfolding deed_text
returns-in-Refused g c = rw c.in-Refused.is c.put_refusal.ensures

pub returns-in-Took : goal.returns-in-Took
unfolding deed_text
returns-in-Took g c =
    let host = rw c.label_in.ensures at c.put_host.ensures in
    rw c.in-Took.is (puts_then c.put-in-Took.ensures (puts_then c.put_number.ensures host))

pub returns-in-Performed : goal.returns-in-Performed
unfolding deed_text
returns-in-Performed g c =
    let what = rw c.device_in.ensures at c.put_op.ensures in
    rw c.in-Performed.is (puts_then c.put-in-Performed.ensures (puts_then c.put_number-in-Performed.ensures (puts_then c.put-in-Performed-2.ensures what)))

pub returns-in-Closed : goal.returns-in-Closed
unfolding deed_text
returns-in-Closed g c = rw c.in-Closed.is (puts_then c.put-in-Closed.ensures (puts_then c.put_number-in-Closed.ensures c.put-in-Closed-2.ensures))
