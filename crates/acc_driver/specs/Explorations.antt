-- From the bytes of a script and a schedule to all reports of ends that runs come to behind the schedule, or to prefixes from each of which
-- others explore on.
use Rattle.std.specs.Prelude.{◌≡◌, ◌≤◌, ◌⊎◌, ◌-◌, ℕ, Bool, false, true, ◌++◌, List, [], length, All, Contains, Option, Some, Result, Ok, Err}
use Rattle.std.specs.Io.KnownBytes.{Appends}
use Rattle.acc_base.specs.Configurations.{fault_of}
use Rattle.acc_core.specs.Worlds.{first_state}
use Rattle.acc_explore.specs.declared.prefixes.PrefixCount.{PrefixCount}
use Rattle.acc_explore.specs.declared.reports.Counts.{Counts}
use Rattle.acc_explore.specs.declared.reports.Form.{Form}
use Rattle.acc_explore.specs.Endings.{Ending, MissesNone, Setting, TellsAll, TellsSome}
use Rattle.acc_explore.specs.Explorations.{IsEnd}
use Rattle.acc_explore.specs.Prefixes.{HoldsReportBehind, PrefixesMissNone, TellsPrefixes, TellsSomePrefixes}
use Rattle.acc_explore.specs.Runs.{MayCome, after, report_of}
use Rattle.acc_explore.specs.Spellings.{going_on}
use Rattle.acc_host.specs.declared.event.Event.{Event}
use Rattle.acc_report.specs.Puts.{Sink, sink}
use Rattle.acc_schedule.specs.declared.schedule.TheConstants.{MAX_EVENTS}
use Rattle.acc_script.specs.Scripts.{ScriptView, script_of}
use Rattle.acc_token.specs.declared.text.TheConstants.{MAX_TEXT}
use Rattle.acc_driver.specs.declared.explorations.Aim.{Aim}
use Rattle.acc_driver.specs.declared.explorations.Aim.TheVariants as aim
use Rattle.acc_driver.specs.declared.explorations.Explored.{Explored}
use Rattle.acc_driver.specs.declared.explorations.Explored.TheVariants as explored
use Rattle.acc_driver.specs.declared.explorations.Exploring.{Exploring}
use Rattle.acc_driver.specs.declared.fault.DriverFault.{DriverFault}
use Rattle.acc_driver.specs.declared.fault.DriverFault.TheVariants as fault
use Rattle.acc_driver.specs.declared.options.Options.{Options}
use Rattle.acc_driver.specs.Inputs.{Parts, parts}
use Rattle.acc_driver.specs.Replays.{SaysNoEvents, configured, events_in}

-- what is explored: runs of a program behind the first events
abbrev pub setting_of : Options → Exploring → ScriptView → List Event → Setting
setting_of options exploring program first =
    record {
      names = program.names;
      programs = program.programs;
      start = after (first_state (configured options program) program.programs) first;
      closing = exploring.closing;
    }

-- The schedule that goes on with these events says the first ones and them, as long as a schedule may be so long.
abbrev pub SaysEvents : Options → ScriptView → List ℕ → List Event → List Event → Type 0
SaysEvents options program schedule first events =
    length (going_on schedule events) ≤ MAX_TEXT → length (first ++ events) ≤ MAX_EVENTS
    → events_in options program (going_on schedule events) ≡ Ok (first ++ events)

-- So does the one that is told for an ending.
abbrev pub SaysEnding : Options → ScriptView → List ℕ → List Event → Ending → Type 0
SaysEnding options program schedule first e = SaysEvents options program schedule first e.events

-- Endings were told, one for each report, and it is counted how many they are. They are all, where the exploration is whole.
pub record ReportsTold (form : Form) (options : Options) (exploring : Exploring) (schedule : List ℕ) (program : ScriptView) (first : List Event) (old new : Option (List ℕ)) (failed : Bool) (counts : Counts) : Type 0 where
  pub told : TellsAll (setting_of options exploring program first) form schedule (exploring.states - 1) (sink old false) (sink new failed) counts
  pub said : All (SaysEnding options program schedule first) told.endings

-- Prefixes were told behind which no report is missed, and it is counted how many they are. They are as long as asked, or lead to an end, where the
-- exploration is whole.
pub record PrefixesTold (depth : ℕ) (options : Options) (exploring : Exploring) (schedule : List ℕ) (program : ScriptView) (first : List Event) (old new : Option (List ℕ)) (failed : Bool) (count : PrefixCount) : Type 0 where
  pub told : TellsPrefixes (setting_of options exploring program first) schedule depth (exploring.states - 1) (sink old false) (sink new failed) count
  pub said : All (SaysEvents options program schedule first) told.prefixes

-- What the exploration is to tell was told.
abbrev pub IsTold : Aim → Options → Exploring → List ℕ → ScriptView → List Event → Option (List ℕ) → Option (List ℕ) → Bool → Explored → Type 0
IsTold (aim.Reports form) options exploring schedule program first old new failed (explored.Reports counts) =
    ReportsTold form options exploring schedule program first old new failed counts
IsTold (aim.Prefixes depth) options exploring schedule program first old new failed (explored.Prefixes count) =
    PrefixesTold depth options exploring schedule program first old new failed count
IsTold (aim.Reports form) options exploring schedule program first old new failed (explored.Prefixes count) = ⊥
IsTold (aim.Prefixes depth) options exploring schedule program first old new failed (explored.Reports counts) = ⊥

-- Some of it was told, nothing perhaps.
abbrev pub TellsSomeOf : Aim → Setting → List ℕ → Sink → Sink → Type 0
TellsSomeOf (aim.Reports form) x schedule old new = TellsSome x form schedule old new
TellsSomeOf (aim.Prefixes depth) x schedule old new = TellsSomePrefixes x schedule old new

-- What is answered to a program and the first events, and what the writer then holds.
abbrev pub ExploresProgram : Options → Exploring → List ℕ → ScriptView → List Event → Option (List ℕ) → Option (List ℕ) → Result Explored DriverFault → Type 0
ExploresProgram options exploring schedule program first old new (Ok told) = IsTold exploring.aim options exploring schedule program first old new false told
ExploresProgram options exploring schedule program first old new (Err fault.Output) = (told : Explored) × IsTold exploring.aim options exploring schedule program first old new true told
ExploresProgram options exploring schedule program first old new (Err fault.Memory) =
    (failed : Bool) × TellsSomeOf exploring.aim (setting_of options exploring program first) schedule (sink old false) (sink new failed)
ExploresProgram options exploring schedule program first old new (Err (fault.Runtime f)) = (fault_of (configured options program) ≡ Some f) × Appends old new []
ExploresProgram options exploring schedule program first old new (Err (fault.Script f)) = ⊥
ExploresProgram options exploring schedule program first old new (Err (fault.Schedule f)) = ⊥
ExploresProgram options exploring schedule program first old new (Err fault.Input) = ⊥

-- The texts say a program and the first events, and this is the answer to them.
pub record ExploresTexts (options : Options) (exploring : Exploring) (texts : Parts) (old new : Option (List ℕ)) (result : Result Explored DriverFault) : Type 0 where
  pub program : ScriptView
  pub script : script_of texts.script ≡ Ok program
  pub first : List Event
  pub schedule : events_in options program texts.schedule ≡ Ok first
  pub answer : ExploresProgram options exploring texts.schedule program first old new result

-- What is answered to the two texts, and what the writer then holds: for a fault of theirs nothing new.
abbrev pub ExploreAnswer : Options → Exploring → Parts → Option (List ℕ) → Option (List ℕ) → Result Explored DriverFault → Type 0
ExploreAnswer options exploring texts old new (Ok told) = ExploresTexts options exploring texts old new (Ok told)
ExploreAnswer options exploring texts old new (Err fault.Output) = ExploresTexts options exploring texts old new (Err fault.Output)
ExploreAnswer options exploring texts old new (Err (fault.Runtime f)) = ExploresTexts options exploring texts old new (Err (fault.Runtime f))
ExploreAnswer options exploring texts old new (Err fault.Memory) = Appends old new [] ⊎ ExploresTexts options exploring texts old new (Err fault.Memory)
ExploreAnswer options exploring texts old new (Err (fault.Script f)) = (script_of texts.script ≡ Err f) × Appends old new []
ExploreAnswer options exploring texts old new (Err (fault.Schedule f)) = ((program : ScriptView) × SaysNoEvents options texts program f) × Appends old new []
ExploreAnswer options exploring texts old new (Err fault.Input) = Appends old new []

-- the script of a text that may hold a schedule too, which is left aside
abbrev pub script_alone : List ℕ → Parts
script_alone text = record { script = (parts text).script; schedule = [] }

-- Where explorations behind some prefixes miss no report, each with the events of its prefix behind the first ones and with limits of its own, all
-- of them together miss none. Of these prefixes none is missed behind the first events, as of those that are told.
abbrev pub PrefixesAreParts : Type 0
PrefixesAreParts =
    (options : Options) (whole part : Exploring) (program : ScriptView) (first : List Event) (prefixes : List (List Event)) (endings : List Event → List Ending)
    → part.closing ≡ whole.closing → PrefixesMissNone (setting_of options whole program first) prefixes
    → ((one : List Event) → Contains prefixes one → MissesNone (setting_of options part program (first ++ one)) (endings one))
    → (events : List Event) → All (MayCome whole.closing) events
    → let start = (setting_of options whole program first).start in IsEnd (after start events)
    → HoldsReportBehind (setting_of options whole program first) (length events) prefixes endings (report_of program.names program.programs (after start events))
