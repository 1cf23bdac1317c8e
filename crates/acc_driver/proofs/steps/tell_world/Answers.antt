use Rattle.std.proofs.Common.{Ok, Err}
use Rattle.acc_driver.specs.Replays.{driver_fault}
use Rattle.acc_report.proofs.JoinedPuts.{written}
use Rattle.acc_driver.proofs.StepsAnswers.{begun_told, front_stays, lines_shown, world_told}
use Rattle.acc_driver.proofs.steps.tell_world.Goals as goal

pub returns-in-Err : goal.returns-in-Err
returns-in-Err g c = λ form lines.
    let front = rw (c.as_slice.ensures.keys, c.as_slice-2.ensures.value) at c.in-Err.ensures.front in
    begun_told _ c.args.events.now c.args.world c.tell_steps.new.world _ _ c.tell_steps.new.failed front

pub returns-then-failed : goal.returns-then-failed
returns-then-failed g c = λ form lines.
    let told = rw (c.as_slice.ensures.keys, c.as_slice-2.ensures.value) at c.in-Ok.ensures.told in
    record {
      final = c.tell_steps.new.world;
      told = told.0;
      steps = told.1;
      written = λ programs is. (_, lines_shown form lines told.0 _, front_stays _ _ c.tell_steps.new.failed told.0 _ c.if-failed.true told.2);
    }

pub returns-in-Ok-report_world : goal.returns-in-Ok-report_world
returns-in-Ok-report_world g c = λ form lines.
    let told = rw (c.as_slice.ensures.keys, c.as_slice-2.ensures.value) at c.in-Ok.ensures.told in
    world_told form lines _ c.args.events.now c.args.world c.tell_steps.new.world told.0 _ _ _ (Ok c.in-Ok-report_world.ended) told.1
    (written _ _ c.tell_steps.new.failed told.0 c.if-failed.false told.2) c.report_world.ensures.legal c.report_world.ensures.follow c.in-Ok-report_world.ensures.answers

pub returns : goal.returns
returns g c = λ form lines.
    let told = rw (c.as_slice.ensures.keys, c.as_slice-2.ensures.value) at c.in-Ok.ensures.told in
    rw c.of_input.ensures
    (world_told form lines _ c.args.events.now c.args.world c.tell_steps.new.world told.0 _ _ _ (Err (driver_fault c.in-Err-report_world.fault)) told.1
    (written _ _ c.tell_steps.new.failed told.0 c.if-failed.false told.2) c.report_world.ensures.legal c.report_world.ensures.follow c.in-Err-report_world.ensures.answers)
