-- What is answered to a world whose steps are to be told, and to a program and a schedule. Only private contracts and proofs cite it.
use Rattle.std.specs.Prelude.{◌≡◌, ◌⊎◌, ℕ, Bool, List, [], map, take, Option, Some, None, Result, Ok, Err}
use Rattle.std.specs.Io.KnownBytes.{Appends}
use Rattle.std.specs.List.{list_any}
use Rattle.acc_core.specs.Legality.{AllFollow, IsLegalState}
use Rattle.acc_core.specs.Machine.{State}
use Rattle.acc_core.specs.Worlds.{statements_in}
use Rattle.acc_host.specs.declared.event.Event.{Event}
use Rattle.acc_host.specs.declared.program.HostProgram.{HostProgram}
use Rattle.acc_host.specs.Hosts.{bare_statements, is_refused}
use Rattle.acc_report.specs.Puts.{AppendsFront}
use Rattle.acc_report.specs.Reports.{report}
use Rattle.acc_schedule.specs.Schedules.{schedule_of}
use Rattle.acc_script.specs.Scripts.{ScriptView}
use Rattle.acc_steps.specs.Lines.{Words}
use Rattle.acc_steps.specs.Pictures.{IsTooLarge}
use Rattle.acc_steps.specs.Walks.{AreTold}
use Rattle.acc_steps.specs.declared.walk.Numbered.{Numbered}
use Rattle.acc_explore.specs.Runs.{left_to_tell}
use Rattle.acc_driver.specs.declared.fault.DriverFault.{DriverFault}
use Rattle.acc_driver.specs.declared.fault.DriverFault.TheVariants as fault
use Rattle.acc_driver.specs.declared.options.Ended.{Ended}
use Rattle.acc_driver.specs.declared.options.Options.{Options}
use Rattle.acc_driver.specs.declared.steps.StepsAs.{StepsAs}
use Rattle.acc_driver.specs.declared.steps.StepsAs.TheVariants as shown_as
use Rattle.acc_driver.specs.Inputs.{Parts}
use Rattle.acc_driver.specs.Replays.{events_in}
use Rattle.acc_driver.specs.Steps.{ShowsSteps, StepsOfProgram}

-- It is shown by lines.
abbrev pub TellsLines : StepsAs → Type 0
TellsLines shown_as.Lines = Unit {0}
TellsLines shown_as.AllLines = Unit {0}
TellsLines shown_as.Picture = ⊥

-- Why the text of a schedule says no events.
abbrev pub IsEventsFault : ℕ → ℕ → List ℕ → DriverFault → Type 0
IsEventsFault hosts devices text (fault.Schedule f) = schedule_of hosts devices text ≡ Err f
IsEventsFault hosts devices text fault.Memory = Unit {0}
IsEventsFault hosts devices text fault.Output = ⊥
IsEventsFault hosts devices text (fault.Script f) = ⊥
IsEventsFault hosts devices text (fault.Runtime f) = ⊥
IsEventsFault hosts devices text fault.Input = ⊥

-- The machine makes all steps, and what shows them, with the report by programs that have the statements of the world in which they end, was written.
pub record WorldShown (form : StepsAs) (words : Words) (events : List Numbered) (begun : State) (old new : Option (List ℕ)) (refused : Bool) : Type 0 where
  pub final : State
  pub told : List ℕ
  pub steps : AreTold words 1 events begun final told
  pub legal : IsLegalState final
  pub follow : AllFollow final 0 final.hosts
  pub written : (programs : List HostProgram) → map bare_statements programs ≡ statements_in final
      → (shown : List ℕ) × ShowsSteps form told (report words.names programs (left_to_tell final)) shown × Appends old new shown
  pub status : refused ≡ list_any is_refused (left_to_tell final).hosts

-- It was written up to where the writer failed.
pub record WorldCutOff (form : StepsAs) (words : Words) (events : List Numbered) (begun : State) (old new : Option (List ℕ)) : Type 0 where
  pub final : State
  pub told : List ℕ
  pub steps : AreTold words 1 events begun final told
  pub written : (programs : List HostProgram) → map bare_statements programs ≡ statements_in final
      → (shown : List ℕ) × ShowsSteps form told (report words.names programs (left_to_tell final)) shown × AppendsFront old new shown

-- The first steps were told, none perhaps, or a beginning of their lines was written, where the writer had failed.
pub record WorldBegun (words : Words) (events : List Numbered) (begun : State) (old new : Option (List ℕ)) : Type 0 where
  pub count : ℕ
  pub final : State
  pub told : List ℕ
  pub steps : AreTold words 1 (take count events) begun final told
  pub written : AppendsFront old new told

-- The first steps would have too large a picture, and nothing is written.
pub record WorldTooLarge (form : StepsAs) (words : Words) (events : List Numbered) (begun : State) (old new : Option (List ℕ)) : Type 0 where
  pub picture : form ≡ shown_as.Picture
  pub final : State
  pub passes : IsTooLarge words events begun final
  pub written : Appends old new []

-- What is answered to a world whose steps are to be told.
abbrev pub StepsOfWorld : StepsAs → Words → List Numbered → State → Option (List ℕ) → Option (List ℕ) → Result (Option Ended) DriverFault → Type 0
StepsOfWorld form words events begun old new (Ok (Some ended)) = WorldShown form words events begun old new ended.refused
StepsOfWorld form words events begun old new (Ok None) = WorldTooLarge form words events begun old new
StepsOfWorld form words events begun old new (Err fault.Output) = WorldCutOff form words events begun old new
StepsOfWorld form words events begun old new (Err fault.Memory) = WorldBegun words events begun old new
StepsOfWorld form words events begun old new (Err (fault.Runtime f)) = ⊥
StepsOfWorld form words events begun old new (Err (fault.Script f)) = ⊥
StepsOfWorld form words events begun old new (Err (fault.Schedule f)) = ⊥
StepsOfWorld form words events begun old new (Err fault.Input) = ⊥

-- The schedule says events, and this is the answer.
abbrev pub StepsOfEvents : Options → StepsAs → Parts → ScriptView → Option (List ℕ) → Option (List ℕ) → Result (Option Ended) DriverFault → Type 0
StepsOfEvents options form texts program old new result =
    (events : List Event) × (events_in options program texts.schedule ≡ Ok events) × StepsOfProgram options form texts program old new result

-- What is answered to a program and the text of a schedule.
abbrev pub StepsOfSchedule : Options → StepsAs → Parts → ScriptView → Option (List ℕ) → Option (List ℕ) → Result (Option Ended) DriverFault → Type 0
StepsOfSchedule options form texts program old new (Ok ended) = StepsOfEvents options form texts program old new (Ok ended)
StepsOfSchedule options form texts program old new (Err fault.Output) = StepsOfEvents options form texts program old new (Err fault.Output)
StepsOfSchedule options form texts program old new (Err (fault.Runtime f)) = StepsOfEvents options form texts program old new (Err (fault.Runtime f))
StepsOfSchedule options form texts program old new (Err fault.Memory) = Appends old new [] ⊎ StepsOfEvents options form texts program old new (Err fault.Memory)
StepsOfSchedule options form texts program old new (Err (fault.Schedule f)) = (events_in options program texts.schedule ≡ Err f) × Appends old new []
StepsOfSchedule options form texts program old new (Err (fault.Script f)) = ⊥
StepsOfSchedule options form texts program old new (Err fault.Input) = ⊥
