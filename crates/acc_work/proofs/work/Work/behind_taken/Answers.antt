use Rattle.std.proofs.Common.{◌≡◌, List, drop, length, refl, sym, ap, subst, ◌∙◌}
use Rattle.acc_batch.specs.declared.label.Label.{Label}
use Rattle.acc_work.specs.Lanes.{LaneView}
use Rattle.acc_work.proofs.work.Work.behind_taken.Goals as goal

pub returns-in-None : goal.returns-in-None
returns-in-None c =
    let none = c.keeps.ensures.order.taken c.args.at ∙ ap (λ (l : LaneView). l.taken) c.in-None.ensures.none in
    subst (λ (taken : List Label). c.args.labels.now ≡ drop (length taken) c.args.labels.now) (sym none) refl

pub returns-in-Some : goal.returns-in-Some
returns-in-Some c =
    let same = ap (λ (l : LaneView). l.taken) c.in-Some.ensures.lane ∙ sym (c.keeps.ensures.order.taken c.args.at) in
    subst (λ (taken : List Label). c.behind_taken.result.now ≡ drop (length taken) c.args.labels.now) same c.behind_taken.ensures
