use Rattle.acc_report.proofs.RetoldHistory.{nothing_told, one_told}
use Rattle.acc_report.proofs.retold.retell.Goals as goal

pub loop-entry-init : goal.loop-entry-init
loop-entry-init c =
    let place = c.in_ok-place.ensures in
    nothing_told c.args.config c.args.places.now c.args.counts.now c.in_ok-place.place place.config place.history place.counts c.requires.accepted c.requires.counted

pub loop-entry-preserved : goal.loop-entry-preserved
loop-entry-preserved c =
    let l = c.loop-entry in
    let told = c.in_ok-left.ensures in
    one_told c.args.config c.args.places.now c.args.counts.now l.entry-index l.place c.tell.new.place l.left.now c.in_ok-left.left.now c.entry-item.result
    c.loop-entry-test.true c.entry-item.is told.config told.history told.counts told.left l.invariant
