use Rattle.std.proofs.Common.{Err}
use Rattle.acc_report.proofs.JoinedPuts.{appends_nothing}
use Rattle.acc_script.specs.Scripts.{view_of_script}
use Rattle.acc_driver.specs.Explorations.{script_alone}
use Rattle.acc_driver.specs.Replays.{driver_fault}
use Rattle.acc_driver.proofs.ExploreAnswers.{script_explored, texts_explored, whole_alone}
use Rattle.acc_driver.proofs.explorations.explore_script.Goals as goal

pub returns-in-Ok-read_script-clause-answers : goal.returns-in-Ok-read_script-clause-answers
returns-in-Ok-read_script-clause-answers g c =
    let text = c.in-Ok.text.items in
    let found = rw (c.split.ensures.script, c.as_slice.ensures.value) at c.in-Ok-read_script.ensures.found in
    whole_alone (g.R.Read.remaining c.args.reader.now) text c.args.options c.args.exploring _ _ c.explore_behind.result c.in-Ok.ensures.bytes
    (texts_explored c.args.options c.args.exploring (script_alone text) (view_of_script c.in-Ok-read_script.script) _ _ c.explore_behind.result found c.explore_behind.ensures.answers)

pub returns-clause-answers : goal.returns-clause-answers
returns-clause-answers g c =
    let text = c.in-Ok.text.items in
    let refused = rw (c.split.ensures.script, c.as_slice.ensures.value) at c.in-Err-read_script.ensures.refused in
    let written = g.W.Write.contents c.args.writer.now in
    rw c.of_input.ensures
    (whole_alone (g.R.Read.remaining c.args.reader.now) text c.args.options c.args.exploring written written (Err (driver_fault c.in-Err-read_script.fault)) c.in-Ok.ensures.bytes
    (script_explored c.args.options c.args.exploring (script_alone text) written written c.in-Err-read_script.fault refused (appends_nothing written)))
