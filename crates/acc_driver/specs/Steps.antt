-- From the bytes of a script and a schedule to what tells each step: lines, and the report behind them, or a picture.
use Rattle.std.specs.Prelude.{◌≡◌, ◌⊎◌, ℕ, Bool, true, false, ◌++◌, List, [], length, take, Option, Some, None, Result, Ok, Err}
use Rattle.std.specs.Io.KnownBytes.{Appends}
use Rattle.std.specs.List.{list_any}
use Rattle.acc_base.specs.Configurations.{fault_of}
use Rattle.acc_core.specs.Legality.{AllFollow, IsLegalState}
use Rattle.acc_core.specs.Machine.{State}
use Rattle.acc_core.specs.Worlds.{first_state}
use Rattle.acc_host.specs.declared.event.Event.{Event}
use Rattle.acc_host.specs.Hosts.{is_refused}
use Rattle.acc_report.specs.Puts.{AppendsFront}
use Rattle.acc_report.specs.Reports.{report}
use Rattle.acc_schedule.specs.Schedules.{lines}
use Rattle.acc_script.specs.Scripts.{ScriptView, script_of}
use Rattle.acc_steps.specs.Lines.{Words}
use Rattle.acc_steps.specs.Pictures.{IsTooLarge, ShowsLines, joined}
use Rattle.acc_steps.specs.Walks.{AreTold, numbered_events}
use Rattle.acc_steps.specs.declared.walk.Numbered.{Numbered}
use Rattle.acc_explore.specs.Runs.{left_to_tell}
use Rattle.acc_driver.specs.declared.fault.DriverFault.{DriverFault}
use Rattle.acc_driver.specs.declared.fault.DriverFault.TheVariants as fault
use Rattle.acc_driver.specs.declared.options.Ended.{Ended}
use Rattle.acc_driver.specs.declared.options.Options.{Options}
use Rattle.acc_driver.specs.declared.steps.StepsAs.{StepsAs}
use Rattle.acc_driver.specs.declared.steps.StepsAs.TheVariants as shown_as
use Rattle.acc_driver.specs.Inputs.{Parts}
use Rattle.acc_driver.specs.Replays.{SaysNoEvents, configured, events_in}

-- whether events that did nothing are told
abbrev pub tells_idle : StepsAs → Bool
tells_idle shown_as.Lines = false
tells_idle shown_as.AllLines = true
tells_idle shown_as.Picture = false

-- what the steps of a script are told with: the names of its arrays, its lines, and whether events that did nothing are told
abbrev pub words_for : StepsAs → List ℕ → ScriptView → Words
words_for form script program = record { names = program.names; source = lines script; idle = tells_idle form }

-- the events of a schedule for a program, each with the number of its line
abbrev pub numbered_in : Options → ScriptView → List ℕ → List Numbered
numbered_in options program schedule = numbered_events (length program.programs) options.devices schedule

-- What shows the text of all lines, and the report of what the steps left: the one and the other, or a picture that shows these lines.
abbrev pub ShowsSteps : StepsAs → List ℕ → List ℕ → List ℕ → Type 0
ShowsSteps shown_as.Lines told report shown = shown ≡ told ++ report
ShowsSteps shown_as.AllLines told report shown = shown ≡ told ++ report
ShowsSteps shown_as.Picture told report shown = (lines : List (List ℕ)) × (told ≡ joined lines) × ShowsLines lines shown

-- Steps of the program from its start on, and the text of their lines.
abbrev pub AreStepsOf : Options → StepsAs → List ℕ → ScriptView → List Numbered → State → List ℕ → Type 0
AreStepsOf options form script program events final told =
    AreTold (words_for form script program) 1 events (first_state (configured options program) program.programs) final told

-- all steps of a schedule, the state that they end in, and what shows them
pub record AllSteps (options : Options) (form : StepsAs) (texts : Parts) (program : ScriptView) (final : State) (shown : List ℕ) : Type 0 where
  pub told : List ℕ
  pub steps : AreStepsOf options form texts.script program (numbered_in options program texts.schedule) final told
  pub shows : ShowsSteps form told (report program.names program.programs (left_to_tell final)) shown

-- All steps were shown, and it is told whether a host was refused.
pub record StepsShown (options : Options) (form : StepsAs) (texts : Parts) (program : ScriptView) (old new : Option (List ℕ)) (refused : Bool) : Type 0 where
  pub final : State
  pub shown : List ℕ
  pub steps : AllSteps options form texts program final shown
  pub legal : IsLegalState final
  pub follow : AllFollow final 0 final.hosts
  pub written : Appends old new shown
  pub status : refused ≡ list_any is_refused (left_to_tell final).hosts

-- They were shown up to where the writer failed.
pub record StepsCutOff (options : Options) (form : StepsAs) (texts : Parts) (program : ScriptView) (old new : Option (List ℕ)) : Type 0 where
  pub final : State
  pub shown : List ℕ
  pub steps : AllSteps options form texts program final shown
  pub written : AppendsFront old new shown

-- The first steps were told, none perhaps, or a beginning of their lines was written, where the writer had failed.
pub record StepsBegun (options : Options) (form : StepsAs) (texts : Parts) (program : ScriptView) (old new : Option (List ℕ)) : Type 0 where
  pub count : ℕ
  pub final : State
  pub told : List ℕ
  pub steps : AreStepsOf options form texts.script program (take count (numbered_in options program texts.schedule)) final told
  pub written : AppendsFront old new told

-- The first steps would have too large a picture, and nothing is written.
pub record StepsTooMany (options : Options) (form : StepsAs) (texts : Parts) (program : ScriptView) (old new : Option (List ℕ)) : Type 0 where
  pub picture : form ≡ shown_as.Picture
  pub final : State
  pub passes : IsTooLarge (words_for form texts.script program) (numbered_in options program texts.schedule)
      (first_state (configured options program) program.programs) final
  pub written : Appends old new []

-- What is answered to a program and a schedule that says events, and what the writer then holds.
abbrev pub StepsOfProgram : Options → StepsAs → Parts → ScriptView → Option (List ℕ) → Option (List ℕ) → Result (Option Ended) DriverFault → Type 0
StepsOfProgram options form texts program old new (Ok (Some ended)) = StepsShown options form texts program old new ended.refused
StepsOfProgram options form texts program old new (Ok None) = StepsTooMany options form texts program old new
StepsOfProgram options form texts program old new (Err fault.Output) = StepsCutOff options form texts program old new
StepsOfProgram options form texts program old new (Err fault.Memory) = StepsBegun options form texts program old new
StepsOfProgram options form texts program old new (Err (fault.Runtime f)) = (fault_of (configured options program) ≡ Some f) × Appends old new []
StepsOfProgram options form texts program old new (Err (fault.Script f)) = ⊥
StepsOfProgram options form texts program old new (Err (fault.Schedule f)) = ⊥
StepsOfProgram options form texts program old new (Err fault.Input) = ⊥

-- The texts say a program and events, and this is the answer to them.
pub record StepsOfTexts (options : Options) (form : StepsAs) (texts : Parts) (old new : Option (List ℕ)) (result : Result (Option Ended) DriverFault) : Type 0 where
  pub program : ScriptView
  pub script : script_of texts.script ≡ Ok program
  pub events : List Event
  pub schedule : events_in options program texts.schedule ≡ Ok events
  pub answer : StepsOfProgram options form texts program old new result

-- What is answered to the two texts, and what the writer then holds: for a fault of theirs nothing new.
abbrev pub StepsAnswer : Options → StepsAs → Parts → Option (List ℕ) → Option (List ℕ) → Result (Option Ended) DriverFault → Type 0
StepsAnswer options form texts old new (Ok ended) = StepsOfTexts options form texts old new (Ok ended)
StepsAnswer options form texts old new (Err fault.Output) = StepsOfTexts options form texts old new (Err fault.Output)
StepsAnswer options form texts old new (Err (fault.Runtime f)) = StepsOfTexts options form texts old new (Err (fault.Runtime f))
StepsAnswer options form texts old new (Err fault.Memory) = Appends old new [] ⊎ StepsOfTexts options form texts old new (Err fault.Memory)
StepsAnswer options form texts old new (Err (fault.Script f)) = (script_of texts.script ≡ Err f) × Appends old new []
StepsAnswer options form texts old new (Err (fault.Schedule f)) = ((program : ScriptView) × SaysNoEvents options texts program f) × Appends old new []
StepsAnswer options form texts old new (Err fault.Input) = Appends old new []
