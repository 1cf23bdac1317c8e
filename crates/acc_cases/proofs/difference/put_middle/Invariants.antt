use Rattle.std.proofs.Common.{◌≡◌, ◌≤◌, ◌+◌, ◌-◌, ◌++◌, length, take}
use Rattle.acc_cases.specs.Differences.{came_in, joined_lines, wanted_in}
use Rattle.acc_cases.proofs.difference.put_middle.Given as goal

abbrev pub invariant-loop-at : goal.invariant-loop-at
invariant-loop-at l = record {
  at_end : l.at ≤ length l.wanted;
  to_end : l.to ≤ length l.came;
  wanted : wanted_in l.lines.items ≡ wanted_in l.initial.lines.items ++ joined_lines (take l.at l.wanted);
  came : came_in l.lines.items ≡ came_in l.initial.lines.items ++ joined_lines (take l.to l.came);
}

abbrev pub decreases-loop-at : goal.decreases-loop-at
decreases-loop-at l = (length l.wanted - l.at) + (length l.came - l.to)
