use Rattle.std.proofs.Common.{◌+◌, ap, sym, ◌∙◌, arith}
use Rattle.acc_run.proofs.ListedItems.{items_item, items_low}
use Rattle.acc_run.proofs.token.HostToken.note_item.Goals as goal

pub overflow_add-self : goal.overflow_add-self
overflow_add-self c =
    let es = c.self.inside.entries in
    let room = rw (← c.self.view_is) at c.requires in
    omega (arith, c.self.invariant.1, items_low es.items, es.ok.0, room)

pub invariant_of-self : goal.invariant_of-self
invariant_of-self c =
    let i = c.self.invariant in
    (i.0, ap (λ n. n + 1) i.1 ∙ sym (rw c.push_reserved.ensures.items (items_item c.self.inside.entries.items c.args.label c.args.shown)))
