use Rattle.std.proofs.Common.{◌≡◌, Ok}
use Rattle.acc_script.specs.Scripts.{view_of_script}
use Rattle.acc_driver.specs.Inputs.{Parts}
use Rattle.acc_driver.specs.Replays.{driver_fault, events_in}
use Rattle.acc_driver.proofs.ReplayAnswers.{usable_runs}
use Rattle.acc_driver.proofs.StepsAnswers.{events_told, program_told, world_runs}
use Rattle.acc_driver.proofs.steps.steps_of.Goals as goal

pub returns-in-Err-clause-run : goal.returns-in-Err-clause-run
returns-in-Err-clause-run g c =
    rw c.of_input.ensures (usable_runs c.args.options (view_of_script c.args.script) (driver_fault c.in-Err.fault) c.requires.declared c.requires.few c.in-Err.ensures.refused)

pub returns-clause-answers : goal.returns-clause-answers
returns-clause-answers g c =
    let program = view_of_script c.args.script in
    let texts : Parts = record { script = c.args.text.now; schedule = c.args.schedule.now } in
    let said = c.in_ok-events.ensures.said in
    let says : events_in c.args.options program c.args.schedule.now ≡ Ok said.0 = rw c.hosts_of.ensures at said.1 in
    let world = rw (c.in-Ok.ensures.lines, c.as_slice-events.ensures.value, c.in_ok-events.ensures.events, c.hosts_of.ensures, c.in-Ok-new_world.ensures.opened) at c.show_world.ensures in
    events_told c.args.options c.args.form texts program said.0 _ _ c.show_world.result says
    (program_told c.programs_stay.ensures c.args.options c.args.form texts program _ _ c.show_world.result world)

pub returns-clause-run : goal.returns-clause-run
returns-clause-run g c = λ usable. world_runs c.args.form _ _ _ _ _ c.show_world.result c.show_world.ensures
