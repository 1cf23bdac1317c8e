use Rattle.std.proofs.Common.{◌≡◌, ◌++◌, take}
use Rattle.acc_steps.specs.Walks.{on_line}
use Rattle.acc_steps.proofs.walk.push_events.Given as goal

abbrev pub invariant-loop-event : goal.invariant-loop-event
invariant-loop-event l = l.list.items ≡ l.fn.list.items ++ on_line l.number (take l.event-index l.events)
