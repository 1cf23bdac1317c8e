use Rattle.std.proofs.Common.{◌≡◌, ◌++◌}
use Rattle.acc_schedule.specs.Schedules.{repeated}
use Rattle.acc_steps.specs.Walks.{on_line}
use Rattle.acc_steps.proofs.walk.push_turns.Given as goal

abbrev pub invariant-loop : goal.invariant-loop
invariant-loop l = l.list.items ≡ l.fn.list.items ++ on_line l.number (repeated l.counter l.events)
