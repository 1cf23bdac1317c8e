use Rattle.std.proofs.Common.{List, take}
use Rattle.acc_host.specs.declared.state.Reply.{Reply}
use Rattle.acc_core.specs.Machine.{Runs}
use Rattle.acc_schedule.specs.Schedules.{all_events}
use Rattle.acc_driver.proofs.replays.run_schedule.Given as goal

abbrev pub invariant-loop-line : goal.invariant-loop-line
invariant-loop-line l = (replies : List Reply) × Runs l.fn.world (all_events l.round (take l.line-index l.lines)) replies l.world
