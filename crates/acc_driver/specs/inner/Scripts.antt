-- What is answered to a script, behind it to a schedule, and to a world that has run. Only private contracts and proofs cite it.
use Rattle.std.specs.Prelude.{◌≡◌, ℕ, List, [], map, Option, Result, Ok, Err}
use Rattle.std.specs.Io.KnownBytes.{Appends}
use Rattle.std.specs.List.{list_any}
use Rattle.acc_core.specs.Machine.{State}
use Rattle.acc_core.specs.Worlds.{statements_in}
use Rattle.acc_host.specs.declared.event.Event.{Event}
use Rattle.acc_host.specs.declared.program.HostProgram.{HostProgram}
use Rattle.acc_host.specs.Hosts.{bare_statements, is_refused}
use Rattle.acc_report.specs.Puts.{AppendsFront}
use Rattle.acc_report.specs.Reports.{report}
use Rattle.acc_script.specs.Scripts.{ScriptView, script_of}
use Rattle.acc_explore.specs.Runs.{left_to_tell}
use Rattle.acc_driver.specs.declared.fault.DriverFault.{DriverFault}
use Rattle.acc_driver.specs.declared.fault.DriverFault.TheVariants as fault
use Rattle.acc_driver.specs.declared.fault.ReplayFault.{ReplayFault}
use Rattle.acc_driver.specs.declared.fault.ReplayFault.TheVariants as replay
use Rattle.acc_driver.specs.declared.options.Ended.{Ended}
use Rattle.acc_driver.specs.declared.options.Options.{Options}
use Rattle.acc_driver.specs.Replays.{RunAnswers, events_in}

-- Why a script says no program.
abbrev pub IsScriptFault : List ℕ → ReplayFault → Type 0
IsScriptFault text (replay.Script f) = script_of text ≡ Err f
IsScriptFault text replay.Memory = Unit {0}
IsScriptFault text (replay.Schedule f) = ⊥
IsScriptFault text replay.Output = ⊥
IsScriptFault text (replay.Runtime f) = ⊥

-- The schedule says events, and this is the answer to them.
abbrev pub AnswersEvents : Options → ScriptView → List ℕ → Option (List ℕ) → Option (List ℕ) → Result Ended DriverFault → Type 0
AnswersEvents options program schedule old new result =
    (events : List Event) × (events_in options program schedule ≡ Ok events) × RunAnswers options program events old new result

-- What is answered to a program and the text of a schedule, and what the writer then holds.
abbrev pub ScheduleAnswers : Options → ScriptView → List ℕ → Option (List ℕ) → Option (List ℕ) → Result Ended DriverFault → Type 0
ScheduleAnswers options program schedule old new (Ok ended) = AnswersEvents options program schedule old new (Ok ended)
ScheduleAnswers options program schedule old new (Err fault.Output) = AnswersEvents options program schedule old new (Err fault.Output)
ScheduleAnswers options program schedule old new (Err (fault.Runtime f)) = AnswersEvents options program schedule old new (Err (fault.Runtime f))
ScheduleAnswers options program schedule old new (Err (fault.Schedule f)) = (events_in options program schedule ≡ Err f) × Appends old new []
ScheduleAnswers options program schedule old new (Err fault.Memory) = Appends old new []
ScheduleAnswers options program schedule old new (Err (fault.Script f)) = ⊥
ScheduleAnswers options program schedule old new (Err fault.Input) = ⊥

-- What is answered to a world that has run, with these names of its arrays: its report, by programs that have its statements, is written, and it
-- is told whether a host was refused.
abbrev pub ReportsWorld : List (List ℕ) → State → Option (List ℕ) → Option (List ℕ) → Result Ended DriverFault → Type 0
ReportsWorld names w old new (Ok ended) =
    ((programs : List HostProgram) → map bare_statements programs ≡ statements_in w → Appends old new (report names programs (left_to_tell w)))
    × (ended.refused ≡ list_any is_refused (left_to_tell w).hosts)
ReportsWorld names w old new (Err fault.Output) =
    (programs : List HostProgram) → map bare_statements programs ≡ statements_in w → AppendsFront old new (report names programs (left_to_tell w))
ReportsWorld names w old new (Err fault.Memory) = Appends old new []
ReportsWorld names w old new (Err (fault.Runtime f)) = ⊥
ReportsWorld names w old new (Err (fault.Script f)) = ⊥
ReportsWorld names w old new (Err (fault.Schedule f)) = ⊥
ReportsWorld names w old new (Err fault.Input) = ⊥
