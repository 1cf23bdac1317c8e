use Rattle.acc_script.specs.Scripts.{view_of_script}
use Rattle.acc_core.specs.Machine.{Runs}
use Rattle.acc_core.specs.Worlds.{first_state}
use Rattle.acc_driver.specs.Replays.{configured, driver_fault, of_input}
use Rattle.acc_driver.proofs.KeptPrograms.{run_reported}
use Rattle.acc_driver.proofs.ReplayAnswers.{usable_runs}
use Rattle.acc_driver.proofs.replays.run.Goals as goal

pub returns-in-Err-clause-run : goal.returns-in-Err-clause-run
returns-in-Err-clause-run g c =
    usable_runs c.args.options (view_of_script c.args.script) (driver_fault c.in-Err.fault) c.requires.declared c.requires.few c.in-Err.ensures.refused

pub returns-clause-answers : goal.returns-clause-answers
returns-clause-answers g c =
    let program = view_of_script c.args.script in
    let runs : Runs (first_state (configured c.args.options program) program.programs) c.args.schedule.now c.run_schedule.ensures.0 c.run_schedule.new.world = rw c.in-Ok.ensures.opened at c.run_schedule.ensures.1 in
    run_reported c.programs_stay.ensures c.args.options program c.args.schedule.now c.run_schedule.ensures.0 c.run_schedule.new.world _ _ (of_input c.report_world.result) runs
    c.report_world.ensures.legal c.report_world.ensures.follow c.report_world.ensures.answers
