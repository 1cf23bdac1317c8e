use Rattle.accq.specs.Words.{explore_by}
use Rattle.accq.proofs.StatusExplorations.{explored_sent}
use Rattle.accq.proofs.explorations.explore_files.Goals as goal

pub returns-in-Ok-clause-answers : goal.returns-in-Ok-clause-answers
returns-in-Ok-clause-answers g c =
    let asked = explore_by c.args.asked.now in
    explored_sent (g.S.Store.holds c.args.files.now) asked asked.schedule _ _ _ c.in-Ok.explored c.sent.result c.in-Ok.ensures.answers
    (record { same = c.sent.ensures.same; fault = c.sent.ensures.fault; kept = c.sent.ensures.kept })
