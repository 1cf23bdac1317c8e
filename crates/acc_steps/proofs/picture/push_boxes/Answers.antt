use Rattle.std.proofs.Common.{◌<◌, length, arith}
use Rattle.acc_steps.proofs.DrawnBoxes.{box_next}
use Rattle.acc_steps.proofs.picture.push_boxes.Goals as goal

pub loop-column-preserved : goal.loop-column-preserved
loop-column-preserved c =
    let below : c.loop-column.column < length c.args.boxes.now = omega (arith, c.loop-column-test.true) in
    let pushed = rw (c.as_slice.ensures.value, c.as_slice-in-loop-column.ensures.value, c.index-boxes-column.is) at c.in_ok-push_box.ensures in
    box_next c.args.boxes.now c.loop-column.column c.index-boxes-column.result c.args.picture.now.items c.loop-column.picture.items c.push_box.new.picture.items
    c.in_ok-layout.layout.items below c.loop-column.invariant pushed
