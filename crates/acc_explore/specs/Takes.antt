-- A queue's take may go first where the queue can't be full: else nothing but the queue itself depends on what it has taken.
use Rattle.std.specs.Prelude.{ℕ, ◌+◌, Bool, true, false, ◌&&◌, nat_lt, nat_le, List, [], ◌∷◌, length, drop, filter}
use Rattle.acc_base.specs.declared.ids.QueueAt.{QueueAt}
use Rattle.acc_core.specs.Machine.{State, is_there, is_empty, labels_of, batches_held, ops_left}
use Rattle.acc_explore.specs.Reductions.{Commutes}
use Rattle.acc_host.specs.declared.event.Event.TheVariants as event
use Rattle.acc_host.specs.declared.program.Act.{Act}
use Rattle.acc_host.specs.declared.program.Act.TheVariants as act
use Rattle.acc_host.specs.declared.program.Statement.{Statement}
use Rattle.acc_host.specs.declared.state.Phase.{Phase}
use Rattle.acc_host.specs.declared.state.Phase.TheVariants as phase
use Rattle.acc_host.specs.Hosts.{HostView}

-- ## The directives that are still to be placed

-- a host places it
abbrev pub places_directive : Act → Bool
places_directive (act.Place d) = true
places_directive (act.Write array cell value) = false
places_directive (act.Print range) = false
places_directive (act.SetDevice n) = false
places_directive (act.SetAsync v) = false
places_directive act.ShowDevice = false
places_directive act.ShowDevices = false

abbrev pub count_directives : List Statement → ℕ
count_directives statements = length (filter (λ (s : Statement). places_directive s.act) statements)

-- A host that waits or asks has placed the directive that it stands at; one that was refused places no more.
abbrev pub unplaced_in : HostView → Phase → ℕ
unplaced_in host phase.Ready = count_directives (drop host.ended host.statements)
unplaced_in host (phase.Waits device counts) = count_directives (drop (host.ended + 1) host.statements)
unplaced_in host (phase.Asks device counts) = count_directives (drop (host.ended + 1) host.statements)
unplaced_in host (phase.Refused fault) = 0

abbrev pub unplaced_by : HostView → ℕ
unplaced_by host = unplaced_in host host.phase

-- the directives that all hosts still have to place
abbrev pub unplaced : List HostView → ℕ
unplaced [] = 0
unplaced (host ∷ hosts) = unplaced_by host + unplaced hosts

-- ## The take

-- a queue holds a batch, and nothing is left of those that it has taken
abbrev pub is_at_take : State → QueueAt → Bool
is_at_take w at = is_empty (ops_left w (labels_of w) at) && nat_lt 0 (batches_held w (labels_of w) at)

-- It isn't full when a directive comes: all that are still to come fit its room, with the batches that it holds.
abbrev pub never_fills : State → QueueAt → Bool
never_fills w at = nat_le (batches_held w (labels_of w) at + unplaced w.hosts) w.config.room

-- A queue of a device that is there can take a batch, and has room, whether it takes it or not.
abbrev pub may_take : QueueAt → State → Bool
may_take at w = is_there w at && (is_at_take w at && never_fills w at)

-- Where the owner may not close, its take commutes with every other event.
abbrev pub TakesCommute : Type 0
TakesCommute = (at : QueueAt) → Commutes false (may_take at) (event.Take at)
