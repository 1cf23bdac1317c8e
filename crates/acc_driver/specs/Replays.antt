-- From bytes to bytes: the texts are read, the machine runs, and the report of what it leaves is written.
use Rattle.std.specs.Prelude.{◌≡◌, ◌≤◌, ℕ, Bool, List, [], length, Option, Some, Result, Ok, Err}
use Rattle.std.specs.Io.KnownBytes.{Appends}
use Rattle.std.specs.List.{list_any}
use Rattle.acc_base.specs.declared.config.TheConstants.{MAX_CAPACITY, MAX_DEVICES, MAX_ROOM}
use Rattle.acc_base.specs.Configurations.{Configuration, configuration, fault_of}
use Rattle.acc_host.specs.declared.event.Event.{Event}
use Rattle.acc_host.specs.declared.state.Reply.{Reply}
use Rattle.acc_core.specs.Legality.{AllFollow, IsLegalState}
use Rattle.acc_core.specs.Machine.{State, Runs}
use Rattle.acc_core.specs.Worlds.{first_state}
use Rattle.acc_host.specs.Hosts.{is_refused}
use Rattle.acc_explore.specs.Runs.{left_to_tell}
use Rattle.acc_driver.specs.declared.fault.DriverFault.{DriverFault}
use Rattle.acc_driver.specs.declared.fault.DriverFault.TheVariants as fault
use Rattle.acc_driver.specs.declared.fault.ReplayFault.{ReplayFault}
use Rattle.acc_driver.specs.declared.fault.ReplayFault.TheVariants as replay
use Rattle.acc_token.specs.declared.read_fault.ReadFault.{ReadFault}
use Rattle.acc_driver.specs.declared.options.Ended.{Ended}
use Rattle.acc_driver.specs.declared.options.Options.{Options}
use Rattle.acc_driver.specs.Inputs.{Parts}
use Rattle.acc_report.specs.Puts.{AppendsFront}
use Rattle.acc_report.specs.Reports.{report}
use Rattle.acc_schedule.specs.Schedules.{schedule_of}
use Rattle.acc_script.specs.Scripts.{ScriptView, script_of}

-- a fault of two texts as one of the input that they were read from
abbrev pub driver_fault : ReplayFault → DriverFault
driver_fault (replay.Script f) = fault.Script f
driver_fault (replay.Schedule f) = fault.Schedule f
driver_fault replay.Output = fault.Output
driver_fault replay.Memory = fault.Memory
driver_fault (replay.Runtime f) = fault.Runtime f

abbrev pub of_input : Result Ended ReplayFault → Result Ended DriverFault
of_input (Ok ended) = Ok ended
of_input (Err f) = Err (driver_fault f)

-- what the schedule says to a program
abbrev pub events_in : Options → ScriptView → List ℕ → Result (List Event) ReadFault
events_in options program schedule = schedule_of (length program.programs) options.devices schedule

abbrev pub configured : Options → ScriptView → Configuration
configured options program =
    configuration options.devices (length program.programs) program.arrays options.cells options.room

-- Why a text was not read to its end.
abbrev pub IsReaderFault : DriverFault → Type 0
IsReaderFault fault.Input = Unit {0}
IsReaderFault fault.Memory = Unit {0}
IsReaderFault fault.Output = ⊥
IsReaderFault (fault.Script f) = ⊥
IsReaderFault (fault.Schedule f) = ⊥
IsReaderFault (fault.Runtime f) = ⊥

-- the text is a script
abbrev pub IsScript : List ℕ → Type 0
IsScript text = (program : ScriptView) × (script_of text ≡ Ok program)

-- It is the script's own fault.
abbrev pub IsOfScript : DriverFault → Type 0
IsOfScript (fault.Script f) = Unit {0}
IsOfScript (fault.Schedule f) = ⊥
IsOfScript (fault.Runtime f) = ⊥
IsOfScript fault.Input = ⊥
IsOfScript fault.Output = ⊥
IsOfScript fault.Memory = ⊥

-- Why there is no world of a configuration.
abbrev pub IsWorldFault : Configuration → DriverFault → Type 0
IsWorldFault config fault.Memory = Unit {0}
IsWorldFault config (fault.Runtime f) = fault_of config ≡ Some f
IsWorldFault config fault.Input = ⊥
IsWorldFault config fault.Output = ⊥
IsWorldFault config (fault.Script f) = ⊥
IsWorldFault config (fault.Schedule f) = ⊥

-- What the two texts say: a program, and the events of the schedule.
pub record Says (options : Options) (texts : Parts) (program : ScriptView) (events : List Event) : Type 0 where
  pub script : script_of texts.script ≡ Ok program
  pub schedule : events_in options program texts.schedule ≡ Ok events

-- The script is read, and this is the schedule's fault.
pub record SaysNoEvents (options : Options) (texts : Parts) (program : ScriptView) (f : ReadFault) : Type 0 where
  pub script : script_of texts.script ≡ Ok program
  pub schedule : events_in options program texts.schedule ≡ Err f

-- A run of the machine on the program and the events ends in this state.
pub record EndsIn (options : Options) (program : ScriptView) (events : List Event) (final : State) : Type 0 where
  pub replies : List Reply
  pub runs : Runs (first_state (configured options program) program.programs) events replies final

-- the whole report of a run, and whether a host was refused
pub record Reported (options : Options) (program : ScriptView) (events : List Event) (old new : Option (List ℕ)) (refused : Bool) : Type 0 where
  pub final : State
  pub ends : EndsIn options program events final
  pub legal : IsLegalState final
  pub follow : AllFollow final 0 final.hosts
  pub written : Appends old new (report program.names program.programs (left_to_tell final))
  pub status : refused ≡ list_any is_refused (left_to_tell final).hosts

-- the report of a run, up to where the writer failed
pub record CutOff (options : Options) (program : ScriptView) (events : List Event) (old new : Option (List ℕ)) : Type 0 where
  pub final : State
  pub ends : EndsIn options program events final
  pub legal : IsLegalState final
  pub follow : AllFollow final 0 final.hosts
  pub written : AppendsFront old new (report program.names program.programs (left_to_tell final))

-- What is answered to a program and events, and what the writer then holds.
abbrev pub RunAnswers : Options → ScriptView → List Event → Option (List ℕ) → Option (List ℕ) → Result Ended DriverFault → Type 0
RunAnswers options program events old new (Ok ended) = Reported options program events old new ended.refused
RunAnswers options program events old new (Err fault.Output) = CutOff options program events old new
RunAnswers options program events old new (Err fault.Memory) = Appends old new []
RunAnswers options program events old new (Err (fault.Runtime f)) =
    (fault_of (configured options program) ≡ Some f) × Appends old new []
RunAnswers options program events old new (Err (fault.Script f)) = ⊥
RunAnswers options program events old new (Err (fault.Schedule f)) = ⊥
RunAnswers options program events old new (Err fault.Input) = ⊥

-- The texts say a program and events, and this is the answer to them.
abbrev pub AnswersRun : Options → Parts → Option (List ℕ) → Option (List ℕ) → Result Ended DriverFault → Type 0
AnswersRun options texts old new result =
    (program : ScriptView) × (events : List Event) × Says options texts program events × RunAnswers options program events old new result

-- What is answered to the two texts, and what the writer then holds: for a fault of theirs nothing new.
abbrev pub Answers : Options → Parts → Option (List ℕ) → Option (List ℕ) → Result Ended DriverFault → Type 0
Answers options texts old new (Ok ended) = AnswersRun options texts old new (Ok ended)
Answers options texts old new (Err fault.Output) = AnswersRun options texts old new (Err fault.Output)
Answers options texts old new (Err (fault.Runtime f)) = AnswersRun options texts old new (Err (fault.Runtime f))
Answers options texts old new (Err (fault.Script f)) = (script_of texts.script ≡ Err f) × Appends old new []
Answers options texts old new (Err (fault.Schedule f)) =
    ((program : ScriptView) × SaysNoEvents options texts program f) × Appends old new []
Answers options texts old new (Err fault.Input) = Appends old new []
Answers options texts old new (Err fault.Memory) = Appends old new []

-- options with which no configuration of a script is refused
pub record AreUsable (options : Options) : Type 0 where
  pub devices : (1 ≤ options.devices) × (options.devices ≤ MAX_DEVICES)
  pub cells : (1 ≤ options.cells) × (options.cells ≤ MAX_CAPACITY)
  pub room : (1 ≤ options.room) × (options.room ≤ MAX_ROOM)

-- The configuration was not refused.
abbrev pub IsRun : Result Ended DriverFault → Type 0
IsRun (Ok ended) = Unit {0}
IsRun (Err (fault.Script f)) = Unit {0}
IsRun (Err (fault.Schedule f)) = Unit {0}
IsRun (Err fault.Input) = Unit {0}
IsRun (Err fault.Output) = Unit {0}
IsRun (Err fault.Memory) = Unit {0}
IsRun (Err (fault.Runtime f)) = ⊥

-- the options where nothing else is said
abbrev pub defaults : Options
defaults = record { devices = 1; cells = 4194304; room = 64 }
