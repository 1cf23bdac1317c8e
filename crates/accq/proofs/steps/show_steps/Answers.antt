use Rattle.accq.specs.Words.{steps_by}
use Rattle.accq.proofs.StatusSteps.{files_cut}
use Rattle.accq.proofs.steps.show_steps.Goals as goal

pub returns-in-Err-clause-answers : goal.returns-in-Err-clause-answers
returns-in-Err-clause-answers g c =
    let asked = steps_by c.args.asked.now in
    let whole = rw c.in-Some.is at c.in_ok-ended.ensures.answers in
    rw c.in-Err.ensures.fault (files_cut (g.S.Store.holds c.args.files.now) asked asked.schedule _ _ _ c.in-Some.ended whole c.in-Err.ensures.kept)
