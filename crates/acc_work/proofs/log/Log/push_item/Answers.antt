use Rattle.std.proofs.Common.{reverse, arith}
use Rattle.acc_work.proofs.AllItems.{items_of-le-all_items}
use Rattle.acc_work.proofs.log.Log.push_item.Goals as goal

pub overflow_add-self : goal.overflow_add-self
overflow_add-self c =
    let host = c.from-index.result in
    let few = rw (← c.self.view_is) at c.requires.few in
    let counted = c.self.invariant.counted host (omega arith) in
    omega (arith, few, counted, items_of-le-all_items host (reverse c.self.inside.entries.items))
