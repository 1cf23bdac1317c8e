use Rattle.std.proofs.Common.{◌≡◌, ◌≤◌, ◌+◌, length, reverse}
use Rattle.acc_explore.specs.Arrivals.{events_to}
use Rattle.acc_explore.proofs.arrival.depth.Given as goal

abbrev pub invariant-loop-left : goal.invariant-loop-left
invariant-loop-left l = record {
  low : l.left ≤ length l.arrivals;
  few : l.depth + l.left ≤ l.number;
  count : l.depth + length (events_to (reverse l.arrivals) l.left) ≡ length (events_to (reverse l.arrivals) l.number);
}

abbrev pub decreases-loop-left : goal.decreases-loop-left
decreases-loop-left l = l.left
