use Rattle.std.proofs.Common.{◌≡◌, List, take, false}
use Rattle.acc_host.specs.declared.state.Reply.{Reply}
use Rattle.acc_core.specs.Machine.{Runs}
use Rattle.acc_core.proofs.world.World.advance.Given as goal

abbrev pub invariant-loop-event : goal.invariant-loop-event
invariant-loop-event l = ((replies : List Reply) × Runs l.initial.self (take l.event-index l.events) replies l.self) × (l.moves ≡ false → l.self ≡ l.initial.self)
