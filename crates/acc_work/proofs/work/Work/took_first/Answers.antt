use Rattle.std.proofs.Common.{true, List, refl, sym, ap, subst, ◌∙◌}
use Rattle.std.specs.Prelude.{IsTrue, ◌↔◌}
use Rattle.acc_batch.specs.declared.label.Label.{Label}
use Rattle.acc_work.specs.Lanes.{LaneView}
use Rattle.acc_work.proofs.FirstTaken.{BeginsWith}
use Rattle.acc_work.proofs.work.Work.took_first.Goals as goal

pub returns-in-None : goal.returns-in-None
returns-in-None c =
    let none = c.keeps.ensures.order.taken c.args.at ∙ ap (λ (l : LaneView). l.taken) c.in-None.ensures.none in
    subst (λ (taken : List Label). IsTrue true ↔ BeginsWith taken c.args.labels.now) (sym none) (λ yes. refl, λ same. refl)

pub returns-in-Some : goal.returns-in-Some
returns-in-Some c =
    let same = ap (λ (l : LaneView). l.taken) c.in-Some.ensures.lane ∙ sym (c.keeps.ensures.order.taken c.args.at) in
    subst (λ (taken : List Label). IsTrue c.took_first.result ↔ BeginsWith taken c.args.labels.now) same c.took_first.ensures
