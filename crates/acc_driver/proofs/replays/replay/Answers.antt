use Rattle.std.proofs.Common.{rules}
use Rattle.acc_script.specs.Scripts.{view_of_script}
use Rattle.acc_driver.specs.Replays.{of_input}
use Rattle.acc_driver.proofs.ReplayAnswers.{schedule_answered, understood_script, whole_script, whole_texts}
use Rattle.acc_driver.proofs.replays.replay.Goals as goal

pub returns-in-Err-read_script-clause-answers : goal.returns-in-Err-read_script-clause-answers
returns-in-Err-read_script-clause-answers g c =
    rw c.of_input.ensures
    (whole_script (g.R.Read.remaining c.args.script.now) (g.S.Read.remaining c.args.schedule.now) c.in-Ok.text.items c.args.options _ _ c.in-Err-read_script.fault
    c.in-Ok.ensures.bytes (rw c.as_slice.ensures.value at c.in-Err-read_script.ensures.refused) (search rules))

pub returns-clause-answers : goal.returns-clause-answers
returns-clause-answers g c =
    let found = rw c.as_slice.ensures.value at c.in-Ok-read_script.ensures.found in
    let answers = rw c.as_slice-2.ensures.value at c.replay_script.ensures.answers in
    let both = schedule_answered c.args.options c.in-Ok.text.items c.in-Ok-read_text.schedule.items (view_of_script c.in-Ok-read_script.script) _ _ (of_input c.replay_script.result) found answers in
    rw c.of_input-2.ensures
    (whole_texts (g.R.Read.remaining c.args.script.now) (g.S.Read.remaining c.args.schedule.now) c.in-Ok.text.items c.in-Ok-read_text.schedule.items c.args.options _ _ _
    c.in-Ok.ensures.bytes c.in-Ok-read_text.ensures.bytes both)

pub returns-in-Err-read_text-clause-understood : goal.returns-in-Err-read_text-clause-understood
returns-in-Err-read_text-clause-understood g c =
    let found = rw c.as_slice.ensures.value at c.in-Ok-read_script.ensures.found in
    understood_script _ (g.R.Read.remaining c.args.script.now) c.in-Ok.text.items (view_of_script c.in-Ok-read_script.script) c.in-Ok.ensures.bytes found

pub returns-clause-understood : goal.returns-clause-understood
returns-clause-understood g c =
    let found = rw c.as_slice.ensures.value at c.in-Ok-read_script.ensures.found in
    understood_script _ (g.R.Read.remaining c.args.script.now) c.in-Ok.text.items (view_of_script c.in-Ok-read_script.script) c.in-Ok.ensures.bytes found
