use Rattle.std.proofs.Common.{arith, refl, reverse, take}
use Rattle.acc_explore.specs.Origins.{setting_from}
use Rattle.acc_explore.specs.inner.Telling.{told_of}
use Rattle.acc_explore.proofs.ToldReports.{told_first, told_more}
use Rattle.acc_explore.proofs.reports.tell_ends.Goals as goal

pub returns-in-Err-clause-begun : goal.returns-in-Err-clause-begun
returns-in-Err-clause-begun g c =
    let x = setting_from c.args.origin.now in
    let told = told_of x (reverse c.args.arrivals.now) (take c.loop-end.end-index c.args.ends.now) in
    told_first x c.args.form c.args.origin.now.schedule.now (reverse c.args.arrivals.now) c.args.ends.now c.loop-end.end-index _ _ _ (omega (arith, c.loop-end-test.true)) refl
    (c.in-Err.ensures.begun told _ c.loop-end.invariant)

pub loop-end-preserved : goal.loop-end-preserved
loop-end-preserved g c =
    let x = setting_from c.args.origin.now in
    let told = told_of x (reverse c.args.arrivals.now) (take c.loop-end.end-index c.args.ends.now) in
    rw (told_more x c.args.form c.args.origin.now.schedule.now (reverse c.args.arrivals.now) c.args.ends.now c.loop-end.end-index _ (omega (arith, c.loop-end-test.true)) refl)
    (c.in-Ok.ensures.told told _ c.loop-end.invariant)
