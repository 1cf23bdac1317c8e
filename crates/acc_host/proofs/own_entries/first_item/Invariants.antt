use Rattle.std.proofs.Common.{◌≡◌, length}
use Rattle.acc_host.specs.inner.Unread.{items_by}
use Rattle.acc_host.proofs.own_entries.first_item.Given as goal

abbrev pub invariant-loop-entry : goal.invariant-loop-entry
invariant-loop-entry l = items_by l.fn.host l.left ≡ items_by l.fn.host l.fn.entries

abbrev pub decreases-loop-entry : goal.decreases-loop-entry
decreases-loop-entry l = length l.left
