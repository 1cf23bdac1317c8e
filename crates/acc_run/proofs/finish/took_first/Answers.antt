use Rattle.std.proofs.Common.{◌≡◌, ◌++◌, List, length, drop, ap, subst, ◌∙◌}
use Rattle.std.specs.Prelude.{◌↔◌, IsTrue}
use Rattle.acc_batch.specs.declared.label.Label.{Label}
use Rattle.acc_batch.specs.Labels.{on_queue}
use Rattle.acc_place.specs.Plans.{PlaceView, standing_in}
use Rattle.acc_work.specs.Works.{WorkView, taken_labels}
use Rattle.acc_run.proofs.finish.took_first.Goals as goal

pub returns : goal.returns
returns c =
    let at = c.args.at in
    let seen = c.as_work.result.now in
    let labels = c.labels_on-placed.result.now in
    let placed = on_queue at (standing_in c.args.place.now.place).labels in
    let shown : labels ≡ placed = c.labels_on-placed.ensures ∙ ap (λ (p : PlaceView). on_queue at (standing_in p).labels) c.as_place.ensures in
    subst (λ (w : WorkView). IsTrue c.took_first.result ↔ (placed ≡ on_queue at (taken_labels w) ++ drop (length (on_queue at (taken_labels w))) placed)) c.as_work.ensures
    (subst (λ (ls : List Label). IsTrue c.took_first.result ↔ (ls ≡ on_queue at (taken_labels seen) ++ drop (length (on_queue at (taken_labels seen))) ls)) shown c.took_first.ensures)
