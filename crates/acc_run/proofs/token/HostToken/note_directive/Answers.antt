use Rattle.std.proofs.Common.{sym, ◌∙◌}
use Rattle.acc_run.proofs.ListedItems.{items_directive}
use Rattle.acc_run.proofs.token.HostToken.note_directive.Goals as goal

pub invariant_of-self : goal.invariant_of-self
invariant_of-self c =
    let i = c.self.invariant in
    (i.0, i.1 ∙ sym (rw c.push_reserved.ensures.items (items_directive c.self.inside.entries.items c.args.directive c.args.placed.now)))
