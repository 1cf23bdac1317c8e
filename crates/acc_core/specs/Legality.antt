-- What holds of the states of the machine after any list of events (OpenACC API 3.0, 2.16, Asynchronous Behavior).
use Rattle.std.specs.Prelude.{ℕ, ◌+◌, List, [], ◌∷◌, length, take, drop}
use Rattle.acc_host.specs.declared.event.Event.{Event}
use Rattle.acc_host.specs.declared.state.Reply.{Reply}
use Rattle.acc_host.specs.Engines.{HostEntry}
pub use Rattle.acc_host.specs.Legality.{Histories, Rise, NothingBehind}
use Rattle.acc_host.specs.Legality as run
use Rattle.acc_host.specs.Following.{Follows}
use Rattle.acc_host.specs.Hosts.{HostView, state_of}
use Rattle.acc_core.specs.Machine.{State, Runs}

-- the histories of a state
abbrev pub histories : State → Histories
histories w = record { config = w.config; history = w.history; counts = w.counts; work = w.work }

abbrev pub CountsRise : State → Type 0
CountsRise w = run.AllRise (histories w)

-- A state is legal where its histories are.
abbrev pub IsLegalState : State → Type 0
IsLegalState w = run.Legal (histories w)

-- a host's own list: its directives with their answers, and its items
abbrev pub host_entries : State → ℕ → List HostEntry
host_entries w host = run.entries_of (histories w) host

-- Each host's entries follow its program, as far as the host has come.
abbrev pub AllFollow : State → ℕ → List HostView → Type 0
AllFollow w h [] = Unit {0}
AllFollow w h (host ∷ hosts) =
    Follows w.config.devices host.statements (state_of host) (host_entries w h) × AllFollow w (h + 1) hosts

-- A run is cut behind its first events, and the state there is legal.
pub record LegalCut (old : State) (first second : List Event) (replies : List Reply) (new : State) : Type 0 where
  pub mid : State
  pub before : Runs old first (take (length first) replies) mid
  pub legal : IsLegalState mid
  pub follow : AllFollow mid 0 mid.hosts
  pub after : Runs mid second (drop (length first) replies) new
