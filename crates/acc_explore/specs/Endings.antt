-- All reports of ends that a state leads to, each with events that lead there, and how they are told.
use Rattle.std.specs.Prelude.{◌≡◌, ◌≤◌, ◌<◌, ◌^◌, ℕ, ◌+◌, Bool, true, false, ◌==◌, IsTrue, List, [], ◌∷◌, ◌++◌, length, map, All, Contains, Ok, codes, decimal, if◌then◌else◌}
use Rattle.std.specs.List.{flat_map, list_any}
use Rattle.acc_base.specs.Configurations.{Configuration}
use Rattle.acc_core.specs.Machine.{State}
use Rattle.acc_core.specs.Worlds.{first_state}
use Rattle.acc_host.specs.declared.event.Event.{Event}
use Rattle.acc_host.specs.declared.program.HostProgram.{HostProgram}
use Rattle.acc_host.specs.Hosts.{is_refused, state_of}
use Rattle.acc_report.specs.Puts.{Puts, Sink}
use Rattle.acc_schedule.specs.declared.schedule.TheConstants.{MAX_EVENTS}
use Rattle.acc_schedule.specs.Schedules.{schedule_of}
use Rattle.acc_token.specs.declared.text.TheConstants.{MAX_TEXT}
use Rattle.acc_explore.specs.declared.reports.Counts.{Counts}
use Rattle.acc_explore.specs.declared.reports.Form.{Form}
use Rattle.acc_explore.specs.declared.reports.Form.TheVariants as form
use Rattle.acc_explore.specs.Explorations.{IsEnd}
use Rattle.acc_explore.specs.Runs.{MayCome, after, open_events, report_of}
use Rattle.acc_explore.specs.Spellings.{going_on}

-- ## What there is to tell

-- What is explored: the names of the arrays and the programs of the hosts, which reports are told with; the state that runs go on from;
-- and whether their owner may close.
pub record Setting : Type 0 where
  pub names : List (List ℕ)
  pub programs : List HostProgram
  pub start : State
  pub closing : Bool

-- events, and a report
pub record Ending : Type 0 where
  pub events : List Event
  pub report : List ℕ

-- The events lead to an end, and the report is that of the end.
pub record IsEnding (x : Setting) (e : Ending) : Type 0 where
  pub events : All (λ (event : Event). Contains (open_events x.closing x.start) event) e.events
  pub ends : IsEnd (after x.start e.events)
  pub report_is : e.report ≡ report_of x.names x.programs (after x.start e.events)

-- Each has a report that none before it has.
abbrev pub Differ : List Ending → Type 0
Differ [] = Unit {0}
Differ (e ∷ others) = All (λ (o : Ending). o.report ≡ e.report → ⊥) others × Differ others

-- One of these has this report, and so many events at most.
pub record HoldsReport (limit : ℕ) (endings : List Ending) (report : List ℕ) : Type 0 where
  pub one : Ending
  pub listed : Contains endings one
  pub soon : length one.events ≤ limit
  pub report_is : one.report ≡ report

-- Whatever events lead to an end, one of these has its report, and no more events.
abbrev pub MissesNone : Setting → List Ending → Type 0
MissesNone x endings =
    (events : List Event) → All (MayCome x.closing) events → IsEnd (after x.start events)
    → HoldsReport (length events) endings (report_of x.names x.programs (after x.start events))

-- Endings with different reports, all reports that there are if the exploration is whole.
pub record AreEndings (x : Setting) (endings : List Ending) (whole : Bool) : Type 0 where
  pub each : All (IsEnding x) endings
  pub differ : Differ endings
  pub none_missed : IsTrue whole → MissesNone x endings

-- whether a host was refused there
abbrev pub refuses : State → Ending → Bool
refuses start e = list_any is_refused (map state_of (after start e.events).hosts)

-- ## How it is told

abbrev pub in_line : ℕ → List ℕ
in_line b = if b == 10 then codes ";" else b ∷ []

-- the report on one line, with a semicolon for the end of each of its own
abbrev pub on_one_line : List ℕ → List ℕ
on_one_line report = flat_map in_line report ++ codes "\n"

-- an ending with its number; a schedule can be read with the comments around it
abbrev pub ending_text : Form → List ℕ → ℕ → Ending → List ℕ
ending_text form.Short schedule number e = on_one_line e.report
ending_text form.Whole schedule number e =
    codes "# schedule " ++ (decimal number ++ (codes "\n" ++ (going_on schedule e.events
    ++ (codes "# report " ++ (decimal number ++ (codes "\n" ++ e.report))))))

abbrev pub endings_text : Form → List ℕ → ℕ → List Ending → List ℕ
endings_text f schedule number [] = []
endings_text f schedule number (e ∷ others) = ending_text f schedule number e ++ endings_text f schedule (number + 1) others

abbrev pub plural_end : ℕ → List ℕ
plural_end count = if count == 1 then [] else codes "s"

-- the word for one, or for more
abbrev pub plural : ℕ → List ℕ → List ℕ
plural count word = word ++ plural_end count

abbrev pub whole_text : Bool → List ℕ
whole_text true = codes "all schedules\n"
whole_text false = codes "stopped: there may be more\n"

-- how much there is, in a line
abbrev pub counts_line : Counts → List ℕ
counts_line counts =
    decimal counts.reports ++ (plural counts.reports (codes " report") ++ (codes ", " ++ (decimal counts.states
    ++ (plural counts.states (codes " state") ++ (codes ", " ++ whole_text counts.whole)))))

-- The short form has no such line.
abbrev pub counts_text : Form → Counts → List ℕ
counts_text form.Short counts = []
counts_text form.Whole counts = counts_line counts

-- Endings were told, and it is counted how many they are: all that there are, unless so many states were kept behind the first that no more may be.
pub record TellsAll (x : Setting) (f : Form) (schedule : List ℕ) (most : ℕ) (old new : Sink) (counts : Counts) : Type 0 where
  pub endings : List Ending
  pub are : AreEndings x endings counts.whole
  pub few : counts.states ≤ most + 1
  pub stopped : counts.whole ≡ false → counts.states ≡ most + 1
  pub reports : counts.reports ≡ length endings
  pub refused : counts.refused ≡ list_any (refuses x.start) endings
  pub told : Puts old new (endings_text f schedule 1 endings ++ counts_text f counts)

-- Some endings were told, none perhaps.
pub record TellsSome (x : Setting) (f : Form) (schedule : List ℕ) (old new : Sink) : Type 0 where
  pub endings : List Ending
  pub each : All (IsEnding x) endings
  pub differ : Differ endings
  pub told : Puts old new (endings_text f schedule 1 endings)

-- ## It can be replayed

-- The schedule that is told for an ending says the first events, which another one says, and then those of the ending; as long as a schedule may be so long.
abbrev pub EndingsAreSaid : Type 0
EndingsAreSaid =
    (x : Setting) (config : Configuration) (schedule : List ℕ) (first : List Event) (e : Ending)
    → x.start ≡ after (first_state config x.programs) first → length x.programs < 2 ^ 8 → config.devices < 2 ^ 8
    → schedule_of (length x.programs) config.devices schedule ≡ Ok first → IsEnding x e
    → length (going_on schedule e.events) ≤ MAX_TEXT → length (first ++ e.events) ≤ MAX_EVENTS
    → schedule_of (length x.programs) config.devices (going_on schedule e.events) ≡ Ok (first ++ e.events)
