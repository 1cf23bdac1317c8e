use Rattle.std.proofs.Common.{◌≡◌, ◌≤◌, ◌-◌, length, take}
use Rattle.acc_cases.specs.Differences.{joined_lines}
use Rattle.acc_cases.proofs.difference.common_start.Given as goal

abbrev pub invariant-loop-common : goal.invariant-loop-common
invariant-loop-common l = record {
  wanted : l.common ≤ length l.wanted;
  came : l.common ≤ length l.came;
  common : joined_lines (take l.common l.wanted) ≡ joined_lines (take l.common l.came);
}

abbrev pub decreases-loop-common : goal.decreases-loop-common
decreases-loop-common l = length l.wanted - l.common
