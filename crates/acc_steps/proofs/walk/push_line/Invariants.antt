use Rattle.std.proofs.Common.{◌≡◌, ◌++◌, take}
use Rattle.acc_schedule.specs.Schedules.{all_events}
use Rattle.acc_steps.specs.Walks.{on_line}
use Rattle.acc_steps.proofs.walk.push_line.Given as goal

abbrev pub invariant-loop-turn : goal.invariant-loop-turn
invariant-loop-turn l = l.list.items ≡ l.fn.list.items ++ on_line l.number (all_events l.round (take l.turn-index l.kept))
