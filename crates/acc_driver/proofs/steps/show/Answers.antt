use Rattle.std.proofs.Common.{rules}
use Rattle.acc_script.specs.Scripts.{view_of_script}
use Rattle.acc_driver.proofs.StepsAnswers.{no_steps, schedule_told, whole_steps}
use Rattle.acc_driver.proofs.steps.show.Goals as goal

pub returns-in-Err-read_script-clause-answers : goal.returns-in-Err-read_script-clause-answers
returns-in-Err-read_script-clause-answers g c =
    rw c.of_input.ensures
    (no_steps (g.R.Read.remaining c.args.script.now) (g.S.Read.remaining c.args.schedule.now) c.in-Ok.text.items c.args.options c.args.form _ _ c.in-Err-read_script.fault
    c.in-Ok.ensures.bytes (rw c.as_slice.ensures.value at c.in-Err-read_script.ensures.refused) (search rules))

pub returns-clause-answers : goal.returns-clause-answers
returns-clause-answers g c =
    let found = rw c.as_slice.ensures.value at c.in-Ok-read_script.ensures.found in
    let answers = rw (c.as_slice-2.ensures.value, c.as_slice-3.ensures.value) at c.steps_of.ensures.answers in
    let both = schedule_told c.args.options c.args.form _ (view_of_script c.in-Ok-read_script.script) _ _ c.steps_of.result found answers in
    whole_steps (g.R.Read.remaining c.args.script.now) (g.S.Read.remaining c.args.schedule.now) c.in-Ok.text.items c.in-Ok-read_text.schedule.items c.args.options c.args.form _ _ c.steps_of.result
    c.in-Ok.ensures.bytes c.in-Ok-read_text.ensures.bytes both
