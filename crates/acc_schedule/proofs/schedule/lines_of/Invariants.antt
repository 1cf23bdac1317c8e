use Rattle.std.proofs.Common.{◌≡◌, ◌+◌, ◌≤◌, [], length}
use Rattle.acc_schedule.specs.declared.schedule.TheConstants.{MAX_EVENTS}
use Rattle.acc_schedule.specs.Schedules.{lines, events_from, all_events, turn_of}
use Rattle.acc_schedule.proofs.schedule.lines_of.Given as goal

abbrev pub invariant-loop-number : goal.invariant-loop-number
invariant-loop-number l = record {
  counted : l.count ≡ length (all_events (turn_of l.hosts l.devices) l.kept.items);
  few : l.count ≤ MAX_EVENTS;
  left : l.number + length l.rest ≤ length l.text + 1;
  same : events_from l.hosts l.devices l.number (all_events (turn_of l.hosts l.devices) l.kept.items) (lines l.rest) ≡ events_from l.hosts l.devices 1 [] (lines l.text);
}
