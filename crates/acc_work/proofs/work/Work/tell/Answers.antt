use Rattle.std.proofs.Common.{◌≡◌, true, sym, ◌∙◌}
use Rattle.acc_work.specs.Items.{has_cells}
use Rattle.acc_work.proofs.ToldItems.{can_tell}
use Rattle.acc_work.proofs.work.Work.tell.Goals as goal

pub record-requires-clause-item : goal.record-requires-clause-item
record-requires-clause-item c =
    let there : has_cells c.args.self.now.arrays c.args.item ≡ true = rw (← c.label.ensures) (sym c.has_cells.ensures ∙ c.if-not-has_cells.false) in
    can_tell c.args.self.now c.args.item c.keeps.ensures.memory c.keeps.ensures.limits c.requires.reached there

pub host_item-requires-clause-item : goal.host_item-requires-clause-item
host_item-requires-clause-item c =
    let there : has_cells c.args.self.now.arrays c.args.item ≡ true = rw (← c.label.ensures) (sym c.has_cells.ensures ∙ c.if-not-has_cells.false) in
    let tells = can_tell c.args.self.now c.args.item c.keeps.ensures.memory c.keeps.ensures.limits c.requires.reached there in
    let back = c.in-Err.ensures.back in
    rw (back.0, back.1) tells
