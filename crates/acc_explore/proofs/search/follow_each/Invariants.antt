use Rattle.std.proofs.Common.{◌≡◌, ◌≤◌, false, length, reverse, take}
use Rattle.std.specs.Prelude.{All, IsTrue}
use Rattle.acc_explore.specs.Arrivals.{found_at}
use Rattle.acc_explore.specs.Explorations.{IsEnd}
use Rattle.acc_explore.specs.inner.Searching.{AreAtHand, IsFollowed, IsHere, start_of}
use Rattle.acc_explore.proofs.SearchEvents.{IsIdleAt}
use Rattle.acc_explore.proofs.search.follow_each.Given as goal

abbrev pub invariant-loop-event : goal.invariant-loop-event
invariant-loop-event l = record {
  followed : IsFollowed l.task.closing l.task.most (start_of l.task) (reverse l.found.arrivals.items) l.found.ends.items l.number (take l.event-index l.events);
  there : l.number ≤ length l.found.arrivals.items;
  here : IsHere (start_of l.task) (reverse l.found.arrivals.items) l.number l.at_hand;
  worlds : AreAtHand (start_of l.task) (reverse l.found.arrivals.items) l.found.worlds.seats.items;
  same : found_at (start_of l.task) (reverse l.found.arrivals.items) l.number ≡ found_at (start_of l.task) (reverse l.initial.found.arrivals.items) l.number;
  idle : IsTrue l.is_end → All (IsIdleAt (found_at (start_of l.task) (reverse l.found.arrivals.items) l.number).state) (take l.event-index l.events);
  busy : l.is_end ≡ false → IsEnd (found_at (start_of l.task) (reverse l.found.arrivals.items) l.number).state → ⊥;
}
