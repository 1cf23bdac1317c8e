-- Prefixes of schedules from each of which others explore on, so that all of them together miss no report; and how they are told.
use Rattle.std.specs.Prelude.{◌≡◌, ◌⊎◌, ◌≤◌, ◌<◌, ◌^◌, ◌+◌, ◌==◌, ℕ, Bool, true, false, IsTrue, List, [], ◌∷◌, ◌++◌, length, All, Contains, Ok, codes, decimal, if◌then◌else◌}
use Rattle.acc_base.specs.Configurations.{Configuration}
use Rattle.acc_core.specs.Worlds.{first_state}
use Rattle.acc_host.specs.declared.event.Event.{Event}
use Rattle.acc_report.specs.Puts.{Puts, Sink}
use Rattle.acc_schedule.specs.declared.schedule.TheConstants.{MAX_EVENTS}
use Rattle.acc_schedule.specs.Schedules.{schedule_of}
use Rattle.acc_token.specs.declared.text.TheConstants.{MAX_TEXT}
use Rattle.acc_explore.specs.declared.prefixes.PrefixCount.{PrefixCount}
use Rattle.acc_explore.specs.Endings.{Ending, HoldsReport, MissesNone, Setting}
use Rattle.acc_explore.specs.Explorations.{IsEnd}
use Rattle.acc_explore.specs.Runs.{MayCome, after, open_events, report_of}
use Rattle.acc_explore.specs.Spellings.{going_on}

-- ## What there is to tell

-- Behind one of these prefixes, events go on to an end with this report, with so many events in all at most.
pub record GoesOnToReport (x : Setting) (limit : ℕ) (prefixes : List (List Event)) (report : List ℕ) : Type 0 where
  pub one : List Event
  pub listed : Contains prefixes one
  pub rest : List Event
  pub may : All (MayCome x.closing) rest
  pub soon : length one + length rest ≤ limit
  pub ends : IsEnd (after (after x.start one) rest)
  pub report_is : report_of x.names x.programs (after (after x.start one) rest) ≡ report

-- Whatever events lead to an end, behind one of these its report is found, with no more events in all.
abbrev pub PrefixesMissNone : Setting → List (List Event) → Type 0
PrefixesMissNone x prefixes =
    (events : List Event) → All (MayCome x.closing) events → IsEnd (after x.start events)
    → GoesOnToReport x (length events) prefixes (report_of x.names x.programs (after x.start events))

-- It leads to an end, or is so long.
abbrev pub IsLongEnough : Setting → ℕ → List Event → Type 0
IsLongEnough x depth events = IsEnd (after x.start events) ⊎ (depth ≤ length events)

-- Events that hosts and queues can do, and the owner where he may close, no more than are asked for, and no report is missed behind them.
-- Where that is whole, they are as many, or lead to an end.
pub record ArePrefixes (x : Setting) (depth : ℕ) (prefixes : List (List Event)) (whole : Bool) : Type 0 where
  pub events : All (λ (events : List Event). All (λ (e : Event). Contains (open_events x.closing x.start) e) events) prefixes
  pub short : All (λ (events : List Event). length events ≤ depth) prefixes
  pub long : IsTrue whole → All (IsLongEnough x depth) prefixes
  pub none_missed : PrefixesMissNone x prefixes

-- ## How it is told

-- a prefix with its number, as a schedule behind another one
abbrev pub prefix_text : List ℕ → ℕ → List Event → List ℕ
prefix_text schedule number events = codes "# prefix " ++ (decimal number ++ (codes "\n" ++ going_on schedule events))

abbrev pub prefixes_text : List ℕ → ℕ → List (List Event) → List ℕ
prefixes_text schedule number [] = []
prefixes_text schedule number (events ∷ others) = prefix_text schedule number events ++ prefixes_text schedule (number + 1) others

abbrev pub prefix_word : ℕ → List ℕ
prefix_word count = if count == 1 then codes " prefix, " else codes " prefixes, "

abbrev pub depth_text : Bool → List ℕ
depth_text true = codes "all schedules\n"
depth_text false = codes "all schedules, stopped less deep\n"

-- how many they are, in a line
abbrev pub prefix_line : PrefixCount → List ℕ
prefix_line count = decimal count.prefixes ++ (prefix_word count.prefixes ++ depth_text count.whole)

-- Prefixes were told, and how many they are: all as long as was asked for, or leading to ends, unless so many states were kept behind the
-- first that no more may be.
pub record TellsPrefixes (x : Setting) (schedule : List ℕ) (depth most : ℕ) (old new : Sink) (count : PrefixCount) : Type 0 where
  pub prefixes : List (List Event)
  pub are : ArePrefixes x depth prefixes count.whole
  pub few : count.states ≤ most + 1
  pub stopped : count.whole ≡ false → count.states ≡ most + 1
  pub count_is : count.prefixes ≡ length prefixes
  pub told : Puts old new (prefixes_text schedule 1 prefixes ++ prefix_line count)

-- Some prefixes were told, none perhaps.
pub record TellsSomePrefixes (x : Setting) (schedule : List ℕ) (old new : Sink) : Type 0 where
  pub prefixes : List (List Event)
  pub events : All (λ (events : List Event). All (λ (e : Event). Contains (open_events x.closing x.start) e) events) prefixes
  pub told : Puts old new (prefixes_text schedule 1 prefixes)

-- ## Others explore on

-- the same, behind these events
abbrev pub behind : Setting → List Event → Setting
behind x events = record { names = x.names; programs = x.programs; start = after x.start events; closing = x.closing }

-- Of the endings that are found behind one of the prefixes, one has this report, and so many events in all at most.
pub record HoldsReportBehind (x : Setting) (limit : ℕ) (prefixes : List (List Event)) (endings : List Event → List Ending) (report : List ℕ) : Type 0 where
  pub one : List Event
  pub listed : Contains prefixes one
  pub left : ℕ
  pub soon : length one + left ≤ limit
  pub held : HoldsReport left (endings one) report

-- Where those that are found behind each prefix miss none, all of them together miss none.
abbrev pub TogetherMissNone : Type 0
TogetherMissNone =
    (x : Setting) (prefixes : List (List Event)) (endings : List Event → List Ending) → PrefixesMissNone x prefixes
    → ((one : List Event) → Contains prefixes one → MissesNone (behind x one) (endings one))
    → (events : List Event) → All (MayCome x.closing) events → IsEnd (after x.start events)
    → HoldsReportBehind x (length events) prefixes endings (report_of x.names x.programs (after x.start events))

-- The schedule that is told for a prefix says the first events, which another one says, and then those of the prefix; as long as a schedule
-- may be so long.
abbrev pub PrefixesAreSaid : Type 0
PrefixesAreSaid =
    (x : Setting) (config : Configuration) (schedule : List ℕ) (first events : List Event)
    → x.start ≡ after (first_state config x.programs) first → length x.programs < 2 ^ 8 → config.devices < 2 ^ 8
    → schedule_of (length x.programs) config.devices schedule ≡ Ok first → All (λ (e : Event). Contains (open_events x.closing x.start) e) events
    → length (going_on schedule events) ≤ MAX_TEXT → length (first ++ events) ≤ MAX_EVENTS
    → schedule_of (length x.programs) config.devices (going_on schedule events) ≡ Ok (first ++ events)
