use Rattle.std.proofs.Common.{◌≡◌, ◌++◌, length}
use Rattle.acc_cases.specs.Differences.{joined_lines}
use Rattle.acc_cases.proofs.difference.lines_of.Given as goal

abbrev pub invariant-loop-rest : goal.invariant-loop-rest
invariant-loop-rest l = joined_lines l.lines.items ++ l.rest ≡ l.text

abbrev pub decreases-loop-rest : goal.decreases-loop-rest
decreases-loop-rest l = length l.rest
