use Rattle.std.proofs.Common.{◌∙◌}
use Rattle.acc_report.proofs.JoinedPuts.{puts_then}
use Rattle.acc_steps.specs.Lines.{op_text}
use Rattle.acc_steps.proofs.words.put_op.Goals as goal

pub returns-in-Make : goal.returns-in-Make
unfolding op_text
returns-in-Make g c =
    let block = rw c.number.ensures at c.put_number.ensures in
    rw c.in-Make.is (puts_then c.put.ensures (puts_then block (puts_then c.put-in-Make.ensures c.put_range.ensures)))

pub returns-in-CopyIn : goal.returns-in-CopyIn
unfolding op_text
returns-in-CopyIn g c =
    let block = rw c.number-in-CopyIn.ensures at c.put_number-in-CopyIn.ensures in
    rw c.in-CopyIn.is (puts_then c.put-in-CopyIn.ensures (puts_then c.put_range-in-CopyIn.ensures (puts_then c.put-in-CopyIn-2.ensures block)))

pub returns-in-CopyOut : goal.returns-in-CopyOut
unfolding op_text
returns-in-CopyOut g c =
    let block = rw c.number-in-CopyOut.ensures at c.put_number-in-CopyOut.ensures in
    rw c.in-CopyOut.is (puts_then c.put-in-CopyOut.ensures (puts_then c.put_range-in-CopyOut.ensures (puts_then c.put-in-CopyOut-2.ensures block)))

pub returns-in-Release : goal.returns-in-Release
unfolding op_text
returns-in-Release g c =
    let block = rw c.number-in-Release.ensures at c.put_number-in-Release.ensures in
    rw c.in-Release.is (puts_then c.put-in-Release.ensures block)

pub returns-in-Run : goal.returns-in-Run
unfolding op_text
returns-in-Run g c =
    let uses = c.as_slice.ensures ∙ c.get.ensures in
    rw c.in-Run.is (puts_then c.put-in-Run.ensures (rw uses at c.put_uses.ensures))

pub returns-in-Await : goal.returns-in-Await
unfolding op_text
returns-in-Await g c = rw c.in-Await.is (puts_then c.put-in-Await.ensures c.put_batch_of.ensures)
