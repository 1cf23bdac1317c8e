-- A directive that is ready to be placed, computed with room for all that are still to be placed, without it, and beside another host.
use Rattle.std.specs.Prelude.{◌≡◌, ℕ, true, false, List, [], ◌∷◌}
use Rattle.acc_base.specs.Configurations.{configuration}
use Rattle.acc_core.specs.Machine.{State}
use Rattle.acc_core.specs.worked.Closes.{enters_and_updates}
use Rattle.acc_core.specs.worked.Programs.{host, program_of}
use Rattle.acc_core.specs.worked.Queues.{five_and_six}
use Rattle.acc_core.specs.Worlds.{first_state}
use Rattle.acc_explore.specs.Placements.{may_place}
use Rattle.acc_explore.specs.Runs.{after}
use Rattle.acc_host.specs.declared.event.Event.TheVariants as event
use Rattle.acc_host.specs.declared.program.HostProgram.{HostProgram}

-- each host enters a range, and updates it, on one queue of this room
abbrev pub begun : ℕ → ℕ → List HostProgram → State
begun hosts room programs = first_state (configuration 1 hosts five_and_six 4194304 room) programs

abbrev pub alone : ℕ → State
alone room = begun 1 room (program_of 0 enters_and_updates ∷ [])

abbrev pub both : State
both = begun 2 64 (program_of 0 enters_and_updates ∷ program_of 1 enters_and_updates ∷ [])

-- With room for both batches a host may place its first directive before all else, and so it may its second.
abbrev pub PlacesWithRoom : Type 0
PlacesWithRoom = (may_place 0 (alone 2) ≡ true) × (may_place 0 (after (alone 2) (host ∷ [])) ≡ true)

-- With room for one it may not: its second directive is refused, unless the first batch is taken before it.
abbrev pub RoomIsWanted : Type 0
RoomIsWanted = may_place 0 (alone 1) ≡ false

-- Nor may one of two hosts, until the other has no directive left.
abbrev pub OthersAreWanted : Type 0
OthersAreWanted = (may_place 0 both ≡ false) × (may_place 0 (after both (event.Host 1 ∷ event.Host 1 ∷ [])) ≡ true)
