use Rattle.std.proofs.Common.{◌≡◌, length}
use Rattle.std.specs.Prelude.{reverse}
use Rattle.acc_host.specs.Entries.{items_shown}
use Rattle.acc_explore.proofs.items.has_same_items.Given as goal

abbrev pub invariant-loop-item : goal.invariant-loop-item
invariant-loop-item l = l.items ≡ l.others → items_shown l.fn.host (reverse l.old.items) ≡ items_shown l.fn.host (reverse l.new.items)

abbrev pub decreases-loop-item : goal.decreases-loop-item
decreases-loop-item l = length l.items
