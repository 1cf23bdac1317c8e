use Rattle.std.proofs.Common.{◌∙◌, ap}
use Rattle.acc_place.specs.Plans.{label_for}
use Rattle.acc_place.specs.inner.Trials.{next_in}
use Rattle.acc_place.proofs.PlanOf.{labelled_cells}
use Rattle.acc_place.proofs.plan.plan_of.Goals as goal

pub batch_of-requires : goal.batch_of-requires
batch_of-requires c =
    let k = c.args.known.now in
    rw c.in_ok-label.ensures.label (labelled_cells k.at (next_in k) c.args.host c.args.items_done _ c.in_ok-ops.ensures.cells)

pub returns-clause-label : goal.returns-clause-label
returns-clause-label c = λ notes h.
    let k = c.args.known.now in
    c.in_ok-label.ensures.label ∙ ap (label_for k.at (next_in k) c.args.host c.args.items_done) (c.in_ok-ops.ensures.ops notes h)
