use Rattle.std.proofs.Common.{◌≡◌, take}
use Rattle.acc_script.specs.Arrays.{texts}
use Rattle.acc_steps.specs.Walks.{numbered_from}
use Rattle.acc_steps.proofs.walk.numbered_events.Given as goal

abbrev pub invariant-loop-line : goal.invariant-loop-line
invariant-loop-line l = record {
  number : l.number ≡ l.line-index;
  events : l.list.items ≡ numbered_from l.hosts l.devices 1 (texts (take l.line-index l.lines));
}
