use Rattle.std.proofs.Common.{Err}
use Rattle.acc_report.proofs.JoinedPuts.{appends_nothing}
use Rattle.acc_script.specs.Scripts.{view_of_script}
use Rattle.acc_driver.specs.Inputs.{parts}
use Rattle.acc_driver.specs.Replays.{driver_fault}
use Rattle.acc_driver.proofs.StepsAnswers.{schedule_told, script_told, whole_input_steps}
use Rattle.acc_driver.proofs.steps.show_one.Goals as goal

pub returns-in-Ok-read_script-clause-answers : goal.returns-in-Ok-read_script-clause-answers
returns-in-Ok-read_script-clause-answers g c =
    let text = c.in-Ok.text.items in
    let found = rw (c.split.ensures.script, c.as_slice.ensures.value) at c.in-Ok-read_script.ensures.found in
    let answers = rw (c.split.ensures.script, c.split.ensures.schedule, c.as_slice.ensures.value) at c.steps_of.ensures.answers in
    whole_input_steps (g.R.Read.remaining c.args.reader.now) text c.args.options c.args.form _ _ c.steps_of.result c.in-Ok.ensures.bytes
    (schedule_told c.args.options c.args.form (parts text) (view_of_script c.in-Ok-read_script.script) _ _ c.steps_of.result found answers)

pub returns-clause-answers : goal.returns-clause-answers
returns-clause-answers g c =
    let text = c.in-Ok.text.items in
    let refused = rw (c.split.ensures.script, c.as_slice.ensures.value) at c.in-Err-read_script.ensures.refused in
    let written = g.W.Write.contents c.args.writer.now in
    rw c.of_input.ensures
    (whole_input_steps (g.R.Read.remaining c.args.reader.now) text c.args.options c.args.form written written (Err (driver_fault c.in-Err-read_script.fault)) c.in-Ok.ensures.bytes
    (script_told c.args.options c.args.form (parts text) written written c.in-Err-read_script.fault refused (appends_nothing written)))
