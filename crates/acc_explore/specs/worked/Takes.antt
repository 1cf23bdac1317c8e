-- A take computed with room for all directives that are still to be placed, and without it.
use Rattle.std.specs.Prelude.{◌≡◌, ℕ, true, false, [], ◌∷◌}
use Rattle.acc_base.specs.declared.fault.Fault.TheVariants.{QueueFull}
use Rattle.acc_base.specs.Configurations.{configuration}
use Rattle.acc_core.specs.Machine.{State, step}
use Rattle.acc_core.specs.worked.Closes.{enters_and_updates}
use Rattle.acc_core.specs.worked.Programs.{host, program_of}
use Rattle.acc_core.specs.worked.Queues.{five_and_six, first}
use Rattle.acc_core.specs.Worlds.{first_state}
use Rattle.acc_explore.specs.Runs.{after}
use Rattle.acc_explore.specs.Takes.{may_take}
use Rattle.acc_host.specs.declared.event.Event.TheVariants as event
use Rattle.acc_host.specs.declared.state.Reply.TheVariants as reply

-- A range was entered on a queue of this room, and an update on the same queue is still to come.
abbrev pub entered : ℕ → State
entered room = after (first_state (configuration 1 1 five_and_six 4194304 room) (program_of 0 enters_and_updates ∷ [])) (host ∷ [])

-- With room for two batches the take may go first.
abbrev pub TakesWithRoom : Type 0
TakesWithRoom = may_take first (entered 2) ≡ true

-- With room for one it may not: the update is refused before it, and accepted behind it.
abbrev pub RoomIsSeen : Type 0
RoomIsSeen =
    (may_take first (entered 1) ≡ false)
    × ((step false (entered 1) host).reply ≡ reply.Refused QueueFull)
    × ((step false (after (entered 1) (event.Take first ∷ [])) host).reply ≡ reply.Did)
