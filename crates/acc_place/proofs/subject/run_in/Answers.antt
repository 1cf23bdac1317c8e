use Rattle.std.proofs.Common.{◌≡◌, true, ◌∙◌}
use Rattle.std.specs.Prelude.{All}
use Rattle.acc_present.specs.Drafts.{drafted}
use Rattle.acc_present.specs.Presences.{is_present}
use Rattle.acc_place.specs.declared.directive.DataItem.{DataItem}
use Rattle.acc_place.specs.Loops.{StaysInside, uses_in}
use Rattle.acc_place.proofs.LoopReach.{run_has_its_cells}
use Rattle.acc_place.proofs.subject.run_in.Goals as goal

pub returns-in_ok-kernel-in-Loop-clause-cells : goal.returns-in_ok-kernel-in-Loop-clause-cells
returns-in_ok-kernel-in-Loop-clause-cells c =
    let k = c.in-Loop.kernel in
    let items = c.args.items.now in
    let ps = drafted c.args.table.now c.args.draft.now in
    let stays : StaysInside k items = rw c.in-Loop.is at c.requires.stays in
    let held : All (λ (i : DataItem). is_present ps i.range ≡ true) items = rw c.in-Loop.is at c.requires.held in
    let found : c.in_ok-listed-in-Loop.listed.items ≡ uses_in k items ps = rw c.get.ensures at c.in_ok-listed-in-Loop.ensures.uses in
    let uses : c.in_ok-uses-in-Loop.uses ≡ uses_in k items ps = c.in_ok-uses-in-Loop.ensures.held ∙ (c.from_vec.ensures ∙ found) in
    rw (c.in_ok-kernel-in-Loop.ensures.equal, uses) (run_has_its_cells items ps k stays held)
