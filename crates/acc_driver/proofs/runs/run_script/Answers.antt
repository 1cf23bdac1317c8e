use Rattle.std.proofs.Common.{rules, Err}
use Rattle.acc_driver.specs.Replays.{driver_fault}
use Rattle.acc_script.specs.Scripts.{view_of_script}
use Rattle.acc_driver.proofs.ThreadRuns.{no_program_answered, program_answered, whole_run}
use Rattle.acc_driver.proofs.runs.run_script.Goals as goal

pub returns-in-Ok-read_script-clause-answers : goal.returns-in-Ok-read_script-clause-answers
returns-in-Ok-read_script-clause-answers g c =
    let found = rw c.as_slice.ensures.value at c.in-Ok-read_script.ensures.found in
    whole_run (g.S.Read.remaining c.args.script.now) c.in-Ok.text.items c.args.options _ _ _ c.in-Ok.ensures.bytes
    (program_answered c.args.options c.in-Ok.text.items (view_of_script c.in-Ok-read_script.script) _ _ c.run.result found c.run.ensures.answers)

pub returns-clause-answers : goal.returns-clause-answers
returns-clause-answers g c =
    let held = g.W.Write.contents c.args.writer.now in
    let read = c.in-Ok.text.items in
    let why = c.in-Err-read_script.fault in
    let told = rw c.as_slice.ensures.value at c.in-Err-read_script.ensures.refused in
    rw c.of_input.ensures
    (whole_run (g.S.Read.remaining c.args.script.now) read c.args.options held held (Err (driver_fault why)) c.in-Ok.ensures.bytes
    (no_program_answered c.args.options read held held why told (search rules)))
