-- What one step of a host does to where it stands.
use Rattle.std.specs.Prelude.{◌≡◌, ℕ, List, Result}
use Rattle.acc_base.specs.declared.fault.Fault.{Fault}
use Rattle.acc_host.specs.declared.state.After.{After}
use Rattle.acc_host.specs.declared.state.Ids.{Ids}
use Rattle.acc_host.specs.declared.state.Phase.{Phase}
use Rattle.acc_host.specs.declared.state.Reply.{Reply}
use Rattle.acc_host.specs.Engines.{HostEntry, Call}
use Rattle.acc_host.specs.Hosts.{Asks, Adds, ended_after, ids_gone, phase_after, reply_to}
use Rattle.acc_host.specs.Steps.{Want}

-- A host goes on so: how many statements have ended, its ids, what it does next, and the reply.
pub record GoesOn (goes : Result After Fault) (ended : ℕ) (ids : Ids) (phase : Phase) (answer : Reply) (new_ended : ℕ) (new_ids : Ids) (new_phase : Phase) : Type 0 where
  pub ended_is : new_ended ≡ ended_after goes ended
  pub ids_is : new_ids ≡ ids_gone goes ids
  pub phase_is : new_phase ≡ phase_after goes phase
  pub reply_is : answer ≡ reply_to goes

-- A host that wants this has gone on: after its call of the engine, and with what its list gains.
pub record Moves {S : Type 0} (makes : S → ℕ → Call → S → Type 0) (entries : S → ℕ → List HostEntry) (old : S) (h : ℕ) (want : Want) (ended : ℕ) (ids : Ids) (phase : Phase) (answer : Reply) (new : S) (new_ended : ℕ) (new_ids : Ids) (new_phase : Phase) : Type 0 where
  pub goes : Result After Fault
  pub asks : Asks makes old h want goes new
  pub adds : Adds want goes (entries old h) (entries new h)
  pub on : GoesOn goes ended ids phase answer new_ended new_ids new_phase
