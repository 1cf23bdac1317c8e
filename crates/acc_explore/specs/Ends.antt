-- What is the case at an end of a run: no host waits for what never comes (OpenACC API 3.0, 2.16, Asynchronous Behavior).
use Rattle.std.specs.Prelude.{◌≡◌, Bool, true, false, All, IsTrue}
use Rattle.acc_core.specs.Enabled.{is_left}
use Rattle.acc_core.specs.Following.{AllStand}
use Rattle.acc_core.specs.Legality.{IsLegalState}
use Rattle.acc_core.specs.Machine.{State}
use Rattle.acc_explore.specs.Explorations.{IsEnd}
use Rattle.acc_host.specs.declared.state.HostState.{HostState}
use Rattle.acc_host.specs.declared.state.HostState.TheVariants as state
use Rattle.acc_host.specs.Hosts.{HostView, state_of}

-- it has ended its program, or was refused
abbrev pub has_stopped : HostState → Bool
has_stopped state.Finished = true
has_stopped (state.Running ended) = false
has_stopped (state.Refused ended line fault) = true

-- Whatever was placed is performed, and each host has stopped.
pub record IsOver (w : State) : Type 0 where
  pub performed : is_left w ≡ false
  pub hosts : All (λ (host : HostView). IsTrue (has_stopped (state_of host))) w.hosts

-- Where no host and no queue can go on, the run is over: it is never stuck.
abbrev pub EndsAreOver : Type 0
EndsAreOver = (w : State) → IsLegalState w → AllStand w 0 w.hosts → IsEnd w → IsOver w
