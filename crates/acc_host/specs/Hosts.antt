-- A host between two steps, and one step of it over an engine.
use Rattle.std.specs.Prelude.{◌≡◌, ◌⊎◌, ℕ, ◌+◌, Bool, true, false, nat_le, List, [], ◌∷◌, map, length, slice_get, Option, Some, None, Result, Ok, Err, if◌then◌else◌}
use Rattle.acc_base.specs.declared.fault.Fault.{Fault}
use Rattle.acc_base.specs.declared.fault.Fault.TheVariants.{Memory}
use Rattle.acc_place.specs.Directives.{Directive}
use Rattle.acc_place.specs.declared.directive.Placed.{Placed}
use Rattle.acc_work.specs.declared.item.ItemLabel.{ItemLabel}
use Rattle.acc_work.specs.declared.item.ItemLabel.TheVariants as to_record
use Rattle.acc_work.specs.declared.item.Shown.{Shown}
use Rattle.acc_batch.specs.declared.entry.Told.{Told}
use Rattle.acc_batch.specs.declared.entry.Told.TheVariants as told
use Rattle.acc_host.specs.declared.program.Act.{Act}
use Rattle.acc_host.specs.declared.program.Act.TheVariants as act
use Rattle.acc_host.specs.declared.state.After.{After}
use Rattle.acc_host.specs.declared.state.After.TheVariants as go
use Rattle.acc_host.specs.declared.program.HostProgram.{HostProgram}
use Rattle.acc_host.specs.declared.state.HostState.{HostState}
use Rattle.acc_host.specs.declared.state.HostState.TheVariants as state
use Rattle.acc_host.specs.declared.state.Ids.{Ids}
use Rattle.acc_host.specs.declared.state.Phase.{Phase}
use Rattle.acc_host.specs.declared.state.Phase.TheVariants as phase
use Rattle.acc_host.specs.declared.state.Reply.{Reply}
use Rattle.acc_host.specs.declared.state.Reply.TheVariants as reply
use Rattle.acc_host.specs.declared.program.Statement.{Statement}
use Rattle.acc_host.specs.Engines.{HostEntry, Gave, Had, Call, Place, Wait, Record, MayTell, Gains}
use Rattle.acc_host.specs.Steps.{Owed, nothing_owed, owes_seen, owes_test, owed_by, Want, stays, sets, refuses, places, awaits, records, wanted, with_ids, first_ids}

-- A host: its number; its statements, each directive without the two ids that the host sets where it places it; how
-- many have ended; the current ids; and what it does next.
pub record HostView : Type 0 where
  pub host : ℕ
  pub statements : List Statement
  pub ended : ℕ
  pub ids : Ids
  pub phase : Phase

-- a statement without the ids of its directive
abbrev pub bare_act : Act → Act
bare_act (act.Place d) = act.Place (with_ids first_ids d)
bare_act (act.Write array cell value) = act.Write array cell value
bare_act (act.Print range) = act.Print range
bare_act (act.SetDevice n) = act.SetDevice n
bare_act (act.SetAsync v) = act.SetAsync v
bare_act act.ShowDevice = act.ShowDevice
bare_act act.ShowDevices = act.ShowDevices

abbrev pub bare : Statement → Statement
bare s = record { line = s.line; act = bare_act s.act }

-- the statements of a program so
abbrev pub bare_statements : HostProgram → List Statement
bare_statements program = map bare program.statements

-- a host before its first statement
abbrev pub ready : HostProgram → HostView
ready program =
    record { host = program.host; statements = map bare program.statements; ended = 0; ids = first_ids; phase = phase.Ready }

-- what it does next, where this is the statement that it stands at
abbrev pub wants_at : ℕ → Ids → Phase → Option Statement → Want
wants_at devices ids p None = stays
wants_at devices ids phase.Ready (Some s) = wanted devices ids s.act
wants_at devices ids (phase.Waits device counts) (Some s) = awaits device counts
wants_at devices ids (phase.Asks device counts) (Some s) = records (to_record.Test device counts)
wants_at devices ids (phase.Refused fault) (Some s) = stays

abbrev pub wants : ℕ → HostView → Want
wants devices host = wants_at devices host.ids host.phase (slice_get host.statements host.ended)

-- how a host goes on after a directive
abbrev pub owing : Owed → After
owing nothing_owed = go.Ended
owing (owes_seen device counts) = go.Waits (record { device = device; counts = counts })
owing (owes_test device counts) = go.Asks (record { device = device; counts = counts })

abbrev pub after_place : Directive → Result Placed Fault → Result After Fault
after_place d (Ok placed) = Ok (owing (owed_by d placed))
after_place d (Err fault) = Err fault

abbrev pub after_wait : Result Bool Fault → Result After Fault
after_wait (Ok true) = Ok go.Ended
after_wait (Ok false) = Ok go.Idle
after_wait (Err fault) = Err fault

abbrev pub after_answer : Result Shown Fault → Result After Fault
after_answer (Ok answer) = Ok go.Ended
after_answer (Err fault) = Err fault

-- An item that takes memory may be refused it before it is recorded.
abbrev pub TakesMemory : ItemLabel → Type 0
TakesMemory (to_record.Write array cell value) = ⊥
TakesMemory (to_record.Print range) = Unit {0}
TakesMemory (to_record.Seen device counts) = Unit {0}
TakesMemory (to_record.Test device counts) = Unit {0}

-- The host's one call of its engine, by what it wants: none where it stays or the statement is its own.
abbrev pub Asks : {S : Type 0} → (S → ℕ → Call → S → Type 0) → S → ℕ → Want → Result After Fault → S → Type 0
Asks makes old h stays goes new = (goes ≡ Ok go.Idle) × (new ≡ old)
Asks makes old h (sets ids) goes new = (goes ≡ Ok (go.Set ids)) × (new ≡ old)
Asks makes old h (refuses fault) goes new = (goes ≡ Err fault) × (new ≡ old)
Asks makes old h (places d) goes new =
    (answer : Result Placed Fault) × makes old h (Place d answer) new × (goes ≡ after_place d answer)
Asks makes old h (awaits device counts) goes new =
    (answer : Result Bool Fault) × makes old h (Wait device counts answer) new × (goes ≡ after_wait answer)
Asks makes old h (records item) goes new =
    (TakesMemory item × (goes ≡ Err Memory) × (new ≡ old))
    ⊎ ((answer : Result Shown Fault) × makes old h (Record item answer) new × (goes ≡ after_answer answer))

-- What the host's list gains.
abbrev pub Adds : Want → Result After Fault → List HostEntry → List HostEntry → Type 0
Adds stays (Ok goes) old new = (goes ≡ go.Idle) × (new ≡ old)
Adds stays (Err fault) old new = ⊥
Adds (sets ids) (Ok goes) old new = (goes ≡ go.Set ids) × (new ≡ old)
Adds (sets ids) (Err fault) old new = ⊥
Adds (refuses fault) (Ok goes) old new = ⊥
Adds (refuses fault) (Err found) old new = (found ≡ fault) × (new ≡ old)
Adds (places d) (Ok goes) old new = (placed : Placed) × (goes ≡ owing (owed_by d placed)) × Gains (Gave d placed) old new
Adds (places d) (Err fault) old new = new ≡ old
Adds (awaits device counts) (Ok goes) old new =
    ((goes ≡ go.Idle) × (new ≡ old)) ⊎ ((goes ≡ go.Ended) × Gains (Had (told.Seen device counts)) old new)
Adds (awaits device counts) (Err fault) old new = new ≡ old
Adds (records item) (Ok goes) old new =
    (goes ≡ go.Ended) × (what : Told) × MayTell item what × Gains (Had what) old new
Adds (records item) (Err fault) old new = new ≡ old

abbrev pub in_phase : HostView → Phase → HostView
in_phase host p = record host { phase = p }

-- the host after that, field by field, and the reply
abbrev pub ended_after : Result After Fault → ℕ → ℕ
ended_after (Ok go.Idle) n = n
ended_after (Ok go.Ended) n = n + 1
ended_after (Ok (go.Set ids)) n = n + 1
ended_after (Ok (go.Waits what)) n = n
ended_after (Ok (go.Asks what)) n = n
ended_after (Err fault) n = n

abbrev pub ids_gone : Result After Fault → Ids → Ids
ids_gone (Ok go.Idle) was = was
ids_gone (Ok go.Ended) was = was
ids_gone (Ok (go.Set ids)) was = ids
ids_gone (Ok (go.Waits what)) was = was
ids_gone (Ok (go.Asks what)) was = was
ids_gone (Err fault) was = was

abbrev pub phase_after : Result After Fault → Phase → Phase
phase_after (Ok go.Idle) was = was
phase_after (Ok go.Ended) was = phase.Ready
phase_after (Ok (go.Set ids)) was = phase.Ready
phase_after (Ok (go.Waits what)) was = phase.Waits what.device what.counts
phase_after (Ok (go.Asks what)) was = phase.Asks what.device what.counts
phase_after (Err fault) was = phase.Refused fault

abbrev pub host_after : Result After Fault → HostView → HostView
host_after goes host =
    record host { ended = ended_after goes host.ended; ids = ids_gone goes host.ids; phase = phase_after goes host.phase }

abbrev pub reply_to : Result After Fault → Reply
reply_to (Ok go.Idle) = reply.Idle
reply_to (Ok go.Ended) = reply.Did
reply_to (Ok (go.Set ids)) = reply.Did
reply_to (Ok (go.Waits what)) = reply.Did
reply_to (Ok (go.Asks what)) = reply.Did
reply_to (Err fault) = reply.Refused fault

-- One step of a host over an engine.
pub record Steps {S : Type 0} (makes : S → ℕ → Call → S → Type 0) (entries : S → ℕ → List HostEntry) (devices : ℕ) (old : S) (host : HostView) (answer : Reply) (new : S) (after : HostView) : Type 0 where
  pub goes : Result After Fault
  pub asks : Asks makes old host.host (wants devices host) goes new
  pub adds : Adds (wants devices host) goes (entries old host.host) (entries new host.host)
  pub host_is : after ≡ host_after goes host
  pub reply_is : answer ≡ reply_to goes

-- A host that waits, asks or was refused stands at a statement.
abbrev pub StandsAt : Option Statement → Phase → Type 0
StandsAt (Some s) p = Unit {0}
StandsAt None phase.Ready = Unit {0}
StandsAt None (phase.Waits device counts) = ⊥
StandsAt None (phase.Asks device counts) = ⊥
StandsAt None (phase.Refused fault) = ⊥

abbrev pub IsHost : HostView → Type 0
IsHost host = StandsAt (slice_get host.statements host.ended) host.phase

abbrev pub line_of : Option Statement → ℕ
line_of None = 0
line_of (Some s) = s.line

abbrev pub state_in : HostView → Phase → HostState
state_in host phase.Ready = if nat_le (length host.statements) host.ended then state.Finished else state.Running host.ended
state_in host (phase.Waits device counts) = state.Running host.ended
state_in host (phase.Asks device counts) = state.Running host.ended
state_in host (phase.Refused fault) = state.Refused host.ended (line_of (slice_get host.statements host.ended)) fault

abbrev pub state_of : HostView → HostState
state_of host = state_in host host.phase

abbrev pub is_refused : HostState → Bool
is_refused state.Finished = false
is_refused (state.Running ended) = false
is_refused (state.Refused ended line fault) = true

-- The directive of a statement, if it is one, has these ids.
abbrev pub IsSet : Ids → Act → Type 0
IsSet ids (act.Place d) = with_ids ids d ≡ d
IsSet ids (act.Write array cell value) = Unit {0}
IsSet ids (act.Print range) = Unit {0}
IsSet ids (act.SetDevice n) = Unit {0}
IsSet ids (act.SetAsync v) = Unit {0}
IsSet ids act.ShowDevice = Unit {0}
IsSet ids act.ShowDevices = Unit {0}

-- A running host is refused; any other stays as it is.
abbrev pub refused_at : HostState → Fault → HostView → HostView
refused_at (state.Running ended) fault host = in_phase host (phase.Refused fault)
refused_at state.Finished fault host = host
refused_at (state.Refused ended line was) fault host = host

-- The programs are those of hosts n, n + 1 and so on.
abbrev pub AreNumbered : ℕ → List HostProgram → Type 0
AreNumbered n [] = Unit {0}
AreNumbered n (program ∷ programs) = (program.host ≡ n) × AreNumbered (n + 1) programs
