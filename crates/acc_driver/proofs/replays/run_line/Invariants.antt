use Rattle.std.proofs.Common.{List}
use Rattle.acc_host.specs.declared.state.Reply.{Reply}
use Rattle.acc_core.specs.Machine.{Runs}
use Rattle.acc_schedule.specs.Schedules.{repeated}
use Rattle.acc_driver.proofs.replays.run_line.Given as goal

abbrev pub invariant-loop : goal.invariant-loop
invariant-loop l = (replies : List Reply) × Runs l.fn.world (repeated l.counter l.turn) replies l.world
