-- The hosts with the accelerator that they share: how a run begins, what it gives, and what it leaves.
use Rattle.std.specs.Prelude.{◌≡◌, ℕ, ◌≤◌, false, List, [], ◌++◌, length, map, pos}
use Rattle.acc_base.specs.declared.config.TheConstants.{MAX_HOSTS}
use Rattle.acc_base.specs.Configurations.{Configuration, has_range}
use Rattle.acc_host.specs.declared.event.Event.{Event}
use Rattle.acc_host.specs.declared.state.Reply.{Reply}
use Rattle.acc_host.specs.declared.program.HostProgram.{HostProgram}
use Rattle.acc_host.specs.declared.state.HostState.{HostState}
use Rattle.acc_host.specs.declared.program.Statement.{Statement}
use Rattle.acc_host.specs.Hosts.{HostView, AreNumbered, ready}
use Rattle.acc_core.specs.Following.{AllStand}
use Rattle.acc_core.specs.Legality.{AllFollow, IsLegalState, LegalCut}
use Rattle.acc_core.specs.Machine.{State, state_at_first, Runs}
use Rattle.acc_memory.specs.Values.{Host_cell}
use Rattle.acc_work.specs.Logs.{value}

-- Each host has one program, and they come in the order of the hosts.
pub record OnePerHost (config : Configuration) (programs : List HostProgram) : Type 0 where
  pub count : length programs ≡ config.hosts
  pub numbered : AreNumbered 0 programs

-- Nothing is accepted, performed, taken or shown, and each host is ready for its first statement.
abbrev pub first_state : Configuration → List HostProgram → State
first_state config programs = state_at_first config (map ready programs)

-- the statements of each host's program, each directive without the two ids that the host sets
abbrev pub statements_in : State → List (List Statement)
statements_in w = map (λ (host : HostView). host.statements) w.hosts

-- No run changes a program.
abbrev pub ProgramsStay : Type 0
ProgramsStay = (events : List Event) (replies : List Reply) (old new : State) → Runs old events replies new → statements_in new ≡ statements_in old

-- What holds of a world between two steps; `states` has room for a state of each host, and `programs` for its program.
pub record IsWorld (w : State) (states : List HostState) (room : ℕ) (programs : List HostProgram) (programs_room : ℕ) : Type 0 where
  pub few_hosts : length w.hosts ≤ MAX_HOSTS
  pub legal : IsLegalState w
  pub stand : AllStand w 0 w.hosts
  pub no_states : states ≡ []
  pub has_room : length w.hosts ≤ room
  pub no_programs : programs ≡ []
  pub has_programs_room : length w.hosts ≤ programs_room

-- A cell that no host array has is zero.
abbrev pub OutsideIsZero : State → Type 0
OutsideIsZero w =
    (array cell : ℕ) → has_range w.config.arrays (record { array = array; lo = cell; len = 1 }) ≡ false
    → value w.config.arrays w.work (Host_cell array cell) ≡ pos 0

-- The machine gave these replies, and wherever the events are cut, both histories are legal there, and each host's
-- entries follow its program.
pub record Ran (old : State) (events : List Event) (replies : List Reply) (new : State) : Type 0 where
  pub runs : Runs old events replies new
  pub cuts : (first second : List Event) → first ++ second ≡ events → LegalCut old first second replies new

-- Every run of the machine that begins so is legal, and each host's entries follow its program, whoever gave the events.
abbrev pub RunsAreLegal : Type 0
RunsAreLegal =
    (config : Configuration) (programs : List HostProgram) (events : List Event) (replies : List Reply) (new : State)
    → AreNumbered 0 programs → Runs (first_state config programs) events replies new → IsLegalState new × AllFollow new 0 new.hosts
