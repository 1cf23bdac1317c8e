use Rattle.std.proofs.Common.{arith, false, true}
use Rattle.acc_script.specs.Scripts.{view_of_script}
use Rattle.acc_driver.specs.Replays.{driver_fault}
use Rattle.acc_driver.proofs.ExploreAnswers.{refused_first, was_told}
use Rattle.acc_driver.proofs.ReplayAnswers.{usable_runs}
use Rattle.acc_driver.proofs.explorations.explore_events.Goals as goal

pub returns-in-Err-clause-run : goal.returns-in-Err-clause-run
returns-in-Err-clause-run g c =
    rw c.of_input.ensures (usable_runs c.args.options (view_of_script c.args.script) (driver_fault c.in-Err.fault) c.requires.declared c.requires.few c.in-Err.ensures.refused)

pub returns-in-Err-clause-answers : goal.returns-in-Err-clause-answers
returns-in-Err-clause-answers g c =
    rw c.of_input.ensures
    (refused_first c.args.options c.args.exploring c.args.schedule.now (view_of_script c.args.script) c.args.events.now _ (driver_fault c.in-Err.fault) c.in-Err.ensures.refused)

pub returns-then-failed-clause-answers : goal.returns-then-failed-clause-answers
returns-then-failed-clause-answers g c =
    let told = rw (c.in-Ok.ensures.held, c.saturating_sub.ensures, c.if-failed.true) at c.in-Ok-tell.ensures.told in (
      c.in-Ok-tell.explored,
      let few = rw c.in-Ok.ensures.held at c.keeps.ensures.limits.devices in
          was_told c.endings_are_said.ensures c.prefixes_miss_none_together.ensures.said c.args.exploring.aim c.args.options c.args.exploring c.args.schedule.now (view_of_script c.args.script) c.args.events.now
          _ _ true c.in-Ok-tell.explored (omega (arith, c.requires.few)) (omega (arith, few)) c.requires.said told,
    )

pub returns-in-Ok-tell-clause-answers : goal.returns-in-Ok-tell-clause-answers
returns-in-Ok-tell-clause-answers g c =
    let told = rw (c.in-Ok.ensures.held, c.saturating_sub.ensures, c.if-failed.false) at c.in-Ok-tell.ensures.told in
    let few = rw c.in-Ok.ensures.held at c.keeps.ensures.limits.devices in
    was_told c.endings_are_said.ensures c.prefixes_miss_none_together.ensures.said c.args.exploring.aim c.args.options c.args.exploring c.args.schedule.now (view_of_script c.args.script) c.args.events.now _ _ false
    c.in-Ok-tell.explored (omega (arith, c.requires.few)) (omega (arith, few)) c.requires.said told
