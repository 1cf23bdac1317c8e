use Rattle.std.proofs.Common.{reverse}
use Rattle.acc_place.proofs.AnswersKept.{go_together}
use Rattle.acc_place.proofs.place.Place.answers.Goals as goal

pub returns-clause-together : goal.returns-clause-together
returns-clause-together c =
    let w = c.self.inside in
    let h = c.self.invariant.0 in
    rw (← c.self.view_is) (go_together w.config (reverse w.history.items) (reverse w.counts.items) h.lawful h.counted)
