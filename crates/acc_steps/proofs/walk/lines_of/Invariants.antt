use Rattle.std.proofs.Common.{◌≡◌, ◌≤◌, ◌+◌, ◌++◌, length}
use Rattle.acc_schedule.specs.Schedules.{lines}
use Rattle.acc_script.specs.Arrays.{texts}
use Rattle.acc_steps.proofs.walk.lines_of.Given as goal

abbrev pub invariant-loop : goal.invariant-loop
invariant-loop l = record {
  left : length l.rest + l.counter ≤ length l.text;
  same : texts l.list.items ++ lines l.rest ≡ lines l.text;
}
