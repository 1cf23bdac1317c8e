use Rattle.std.proofs.Common.{◌≡◌, ◌++◌, [], take}
use Rattle.std.specs.Prelude.{if◌then◌else◌}
use Rattle.acc_cases.specs.Differences.{came_in, is_of_came, is_wanted, joined_lines, wanted_in}
use Rattle.acc_cases.proofs.difference.put_all.Given as goal

abbrev pub invariant-loop-bytes : goal.invariant-loop-bytes
invariant-loop-bytes l = record {
  wanted : wanted_in l.lines.items ≡ wanted_in l.initial.lines.items ++ (if is_wanted l.mark then joined_lines (take l.bytes-index l.all) else []);
  came : came_in l.lines.items ≡ came_in l.initial.lines.items ++ (if is_of_came l.mark then joined_lines (take l.bytes-index l.all) else []);
}
