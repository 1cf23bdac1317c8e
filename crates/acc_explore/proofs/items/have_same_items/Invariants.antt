use Rattle.std.proofs.Common.{◌≡◌, ◌<◌, ℕ}
use Rattle.std.specs.Prelude.{reverse}
use Rattle.acc_host.specs.Entries.{items_shown}
use Rattle.acc_explore.proofs.items.have_same_items.Given as goal

abbrev pub invariant-loop-host : goal.invariant-loop-host
invariant-loop-host l = (host : ℕ) → host < l.host → items_shown host (reverse l.old.items) ≡ items_shown host (reverse l.new.items)
