-- What holds of every host over every engine, as the laws of hosts say it.
use Rattle.std.proofs.Common.{ℕ, List, [], Result}
use Rattle.acc_base.specs.declared.fault.Fault.{Fault}
use Rattle.acc_host.specs.declared.program.HostProgram.{HostProgram}
use Rattle.acc_host.specs.declared.state.After.{After}
use Rattle.acc_host.specs.Engines.{HostEntry}
use Rattle.acc_host.specs.Following.{Stands, Follows}
use Rattle.acc_host.specs.Hosts.{HostView, ready, state_of, Adds, wants, host_after}

pub record HostLaws : Type 0 where
  pub first : (devices : ℕ) (program : HostProgram) → Stands devices (ready program) []
  pub steps : (devices : ℕ) (host : HostView) (goes : Result After Fault) (list longer : List HostEntry)
      → Adds (wants devices host) goes list longer → Stands devices host list → Stands devices (host_after goes host) longer
  pub follow : (devices : ℕ) (host : HostView) (list : List HostEntry) → Stands devices host list → Follows devices host.statements (state_of host) list
