use Rattle.std.proofs.Common.{◌≡◌, ◌≤◌, length, take, vec_len}
use Rattle.std.specs.Prelude.{vec_capacity}
use Rattle.acc_core.specs.Machine.{Runs}
use Rattle.acc_core.proofs.world.World.run.Given as goal

abbrev pub invariant-loop-event : goal.invariant-loop-event
invariant-loop-event l = record {
  runs : Runs l.initial.self (take l.event-index l.events) l.replies.items l.self;
  count : vec_len l.replies ≡ l.event-index;
  room : length l.events ≤ vec_capacity l.replies;
}
