use Rattle.std.proofs.Common.{◌≡◌, ◌≤◌, ◌++◌, length, reverse}
use Rattle.acc_explore.specs.Arrivals.{events_to}
use Rattle.acc_explore.proofs.arrival.path.Given as goal

abbrev pub invariant-loop-left : goal.invariant-loop-left
invariant-loop-left l = record {
  low : l.left ≤ length l.arrivals;
  path : events_to (reverse l.arrivals) l.left ++ reverse l.events.items ≡ events_to (reverse l.arrivals) l.number;
}

abbrev pub decreases-loop-left : goal.decreases-loop-left
decreases-loop-left l = l.left
