use Rattle.std.proofs.Common.{◌≡◌, take}
use Rattle.acc_schedule.specs.Schedules.{all_events}
use Rattle.acc_schedule.proofs.schedule.all_events.Given as goal

abbrev pub invariant-loop-line : goal.invariant-loop-line
invariant-loop-line l = l.events.items ≡ all_events l.round (take l.line-index l.kept)
