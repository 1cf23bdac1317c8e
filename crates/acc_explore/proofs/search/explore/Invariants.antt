use Rattle.std.proofs.Common.{◌≤◌, ◌+◌, ◌-◌, ℕ, [], length, reverse}
use Rattle.acc_core.specs.Worlds.{first_state}
use Rattle.acc_explore.specs.Arrivals.{found_at}
use Rattle.acc_explore.specs.inner.Searching.{AreAtHand, IsFollowed}
use Rattle.acc_explore.specs.Runs.{after}
use Rattle.acc_explore.proofs.search.explore.Given as goal

abbrev pub invariant-loop-next : goal.invariant-loop-next
invariant-loop-next g l = record {
  followed : IsFollowed l.closing l.most (after (first_state l.config l.programs) l.before) (reverse l.found.arrivals.items) l.found.ends.items l.next [];
  worlds : AreAtHand (after (first_state l.config l.programs) l.before) (reverse l.found.arrivals.items) l.found.worlds.seats.items;
  shallow : (n : ℕ) → n ≤ length (reverse l.found.arrivals.items) → (found_at (after (first_state l.config l.programs) l.before) (reverse l.found.arrivals.items) n).depth ≤ l.deepest;
}

abbrev pub decreases-loop-next : goal.decreases-loop-next
decreases-loop-next g l = l.most + 1 - l.next
