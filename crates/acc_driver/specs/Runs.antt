-- From the bytes of a script to its report: the script is read, threads run its hosts and queues, and the report of what they leave
-- is written.
use Rattle.std.specs.Prelude.{◌≡◌, ◌⊎◌, ℕ, ◌+◌, Bool, List, [], ◌∷◌, Option, Some, None, Result, Ok, Err}
use Rattle.std.specs.Io.KnownBytes.{Appends}
use Rattle.std.specs.List.{list_any}
use Rattle.acc_base.specs.Configurations.{Configuration, fault_of}
use Rattle.acc_base.specs.declared.fault.Fault.{Fault}
use Rattle.acc_base.specs.declared.fault.Fault.TheVariants.{HostsDiffer}
use Rattle.acc_host.specs.Discards.{discarded_on}
use Rattle.acc_host.specs.Following.{Follows}
use Rattle.acc_host.specs.Hosts.{is_refused, ready}
use Rattle.acc_host.specs.Legality.{Histories, Legal, entries_of}
use Rattle.acc_host.specs.declared.outcome.Discarded.{Discarded}
use Rattle.acc_host.specs.declared.program.HostProgram.{HostProgram}
use Rattle.acc_host.specs.declared.state.HostState.{HostState}
use Rattle.acc_run.specs.Calling.{HasStopped}
use Rattle.acc_run.specs.Finishing.{AllClosedLast, Leaves, PerformedAll}
use Rattle.acc_report.specs.Puts.{AppendsFront}
use Rattle.acc_report.specs.Reports.{Left, report}
use Rattle.acc_script.specs.Scripts.{ScriptView, script_of}
use Rattle.acc_driver.specs.Replays.{configured}
use Rattle.acc_driver.specs.declared.fault.DriverFault.{DriverFault}
use Rattle.acc_driver.specs.declared.fault.DriverFault.TheVariants as fault
use Rattle.acc_driver.specs.declared.options.Ended.{Ended}
use Rattle.acc_driver.specs.declared.options.Options.{Options}

-- ## What threads leave

-- the histories among what a run leaves
abbrev pub histories_left : Left → Histories
histories_left left = record { config = left.config; history = left.history; counts = left.counts; work = left.work }

-- A host has stopped in this state, and its own entries follow its program as far as it has come.
pub record StoppedIn (h : Histories) (host : ℕ) (program : HostProgram) (here : HostState) : Type 0 where
  pub stopped : HasStopped here
  pub follows : Follows h.config.devices (ready program).statements here (entries_of h host)

-- So have hosts n, n + 1 and so on, one for each program.
abbrev pub AllStopped : Histories → ℕ → List HostProgram → List HostState → Type 0
AllStopped h n [] [] = Unit {0}
AllStopped h n (program ∷ programs) (here ∷ others) = StoppedIn h n program here × AllStopped h (n + 1) programs others
AllStopped h n [] (here ∷ others) = ⊥
AllStopped h n (program ∷ programs) [] = ⊥

-- The queues of a finished run: each has performed all that was placed on it, its close last, and nothing is discarded.
pub record AreFinished (h : Histories) (list : List Discarded) : Type 0 where
  pub performed_all : PerformedAll h
  pub closed_last : AllClosedLast h
  pub nothing : list ≡ []

-- Those of an abandoned run: what was placed on a queue and it hasn't performed is discarded, in its order.
abbrev pub AreAbandoned : Histories → List Discarded → Type 0
AreAbandoned h list = Leaves h (λ at. discarded_on at list)

-- What a run of programs by threads leaves, under this configuration: legal histories; queues of a finished run, or of an abandoned one;
-- and each host has stopped.
pub record LeftByThreads (config : Configuration) (programs : List HostProgram) (left : Left) : Type 0 where
  pub configured : left.config ≡ config
  pub legal : Legal (histories_left left)
  pub queues : AreFinished (histories_left left) left.discarded ⊎ AreAbandoned (histories_left left) left.discarded
  pub stopped : AllStopped (histories_left left) 0 programs left.hosts

-- ## What is answered

-- the whole report of a run, and whether a host was refused
pub record RunReported (options : Options) (program : ScriptView) (old new : Option (List ℕ)) (refused : Bool) : Type 0 where
  pub left : Left
  pub ran : LeftByThreads (configured options program) program.programs left
  pub written : Appends old new (report program.names program.programs left)
  pub status : refused ≡ list_any is_refused left.hosts

-- the report of a run, up to where the writer failed
pub record RunCutOff (options : Options) (program : ScriptView) (old new : Option (List ℕ)) : Type 0 where
  pub left : Left
  pub ran : LeftByThreads (configured options program) program.programs left
  pub written : AppendsFront old new (report program.names program.programs left)

-- Why there is no run to report: the fault of the configuration; where it has none, what the hosts list differs from the histories.
abbrev pub IsRunFault : Option Fault → Fault → Type 0
IsRunFault (Some fault) f = f ≡ fault
IsRunFault None f = f ≡ HostsDiffer

-- What is answered to a program, and what the writer then holds.
abbrev pub ProgramAnswers : Options → ScriptView → Option (List ℕ) → Option (List ℕ) → Result Ended DriverFault → Type 0
ProgramAnswers options program old new (Ok ended) = RunReported options program old new ended.refused
ProgramAnswers options program old new (Err fault.Output) = RunCutOff options program old new
ProgramAnswers options program old new (Err fault.Memory) = Appends old new []
ProgramAnswers options program old new (Err (fault.Runtime f)) = IsRunFault (fault_of (configured options program)) f × Appends old new []
ProgramAnswers options program old new (Err (fault.Script f)) = ⊥
ProgramAnswers options program old new (Err (fault.Schedule f)) = ⊥
ProgramAnswers options program old new (Err fault.Input) = ⊥

-- The script says a program, and this is the answer to it.
abbrev pub SaysAnswered : Options → List ℕ → Option (List ℕ) → Option (List ℕ) → Result Ended DriverFault → Type 0
SaysAnswered options script old new result =
    (program : ScriptView) × (script_of script ≡ Ok program) × ProgramAnswers options program old new result

-- What is answered to a script, and what the writer then holds: for a fault of its own nothing new.
abbrev pub ScriptAnswers : Options → List ℕ → Option (List ℕ) → Option (List ℕ) → Result Ended DriverFault → Type 0
ScriptAnswers options script old new (Ok ended) = SaysAnswered options script old new (Ok ended)
ScriptAnswers options script old new (Err fault.Output) = SaysAnswered options script old new (Err fault.Output)
ScriptAnswers options script old new (Err (fault.Runtime f)) = SaysAnswered options script old new (Err (fault.Runtime f))
ScriptAnswers options script old new (Err (fault.Script f)) = (script_of script ≡ Err f) × Appends old new []
ScriptAnswers options script old new (Err fault.Input) = Appends old new []
ScriptAnswers options script old new (Err fault.Memory) = Appends old new []
ScriptAnswers options script old new (Err (fault.Schedule f)) = ⊥

-- The configuration was not refused: where the run as a whole was, what the hosts list differs from the histories.
abbrev pub IsConfigured : Result Ended DriverFault → Type 0
IsConfigured (Ok ended) = Unit {0}
IsConfigured (Err (fault.Script f)) = Unit {0}
IsConfigured (Err (fault.Schedule f)) = Unit {0}
IsConfigured (Err fault.Input) = Unit {0}
IsConfigured (Err fault.Output) = Unit {0}
IsConfigured (Err fault.Memory) = Unit {0}
IsConfigured (Err (fault.Runtime f)) = f ≡ HostsDiffer
