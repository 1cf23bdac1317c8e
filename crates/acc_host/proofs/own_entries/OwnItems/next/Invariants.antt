use Rattle.std.proofs.Common.{◌≡◌, ◌++◌, length}
use Rattle.acc_host.specs.inner.Unread.{items_by}
use Rattle.acc_host.proofs.own_entries.OwnItems.next.Given as goal

abbrev pub invariant-loop-what : goal.invariant-loop-what
invariant-loop-what l = items_by l.self-inside.host (l.self-inside.page.now ++ l.self-inside.pages) ≡ l.fn.self

abbrev pub decreases-loop-what : goal.decreases-loop-what
decreases-loop-what l = length l.self-inside.pages
