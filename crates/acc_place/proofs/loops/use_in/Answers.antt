use Rattle.std.proofs.Common.{◌<◌, sym}
use Rattle.std.specs.Prelude.{◌==◌}
use Rattle.acc_place.specs.declared.directive.DataItem.{DataItem}
use Rattle.acc_present.specs.Drafts.{drafted}
use Rattle.acc_place.proofs.LoopReach.{find_all, not_used}
use Rattle.acc_place.proofs.loops.use_in.Goals as goal

pub look-requires-clause-cells : goal.look-requires-clause-cells
look-requires-clause-cells c =
    find_all (λ (i : DataItem). 0 < i.range.len) (λ (i : DataItem). i.range.array == c.args.array) c.args.items.now c.in_ok-item.item.now c.requires.cells (sym c.in_ok-item.ensures)

pub returns-in-Absent : goal.returns-in-Absent
returns-in-Absent c =
    not_used (drafted c.args.table.now c.args.draft.now) c.args.items.now c.args.array c.in_ok-item.item.now c.look.result c.in_ok-item.ensures c.look.ensures c.in-Absent.is
