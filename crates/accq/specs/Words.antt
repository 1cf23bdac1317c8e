-- What the words of a command line ask for. How a parser goes over words is told by the crate clap (`subcommand_of` gives what they say, `fault_of`
-- what is wrong with them); which words there are, and what they mean, stands here.
use Rattle.std.specs.Prelude.{◌≤◌, ℕ, Bool, false, List, [], ◌∷◌, Option, Some, None, option_and_then, option_map, bytes_eq, codes, true, if◌then◌else◌}
use Rattle.acc_base.specs.declared.config.TheConstants.{MAX_DEVICES, MAX_CAPACITY, MAX_ROOM}
use Rattle.acc_cases.specs.Options.{number_in}
use Rattle.acc_driver.specs.declared.explorations.Aim.{Aim}
use Rattle.acc_driver.specs.declared.explorations.Aim.TheVariants.{Prefixes, Reports}
use Rattle.acc_driver.specs.declared.explorations.Exploring.{Exploring}
use Rattle.acc_driver.specs.declared.options.Options.{Options}
use Rattle.acc_driver.specs.declared.steps.StepsAs.{StepsAs}
use Rattle.acc_driver.specs.declared.steps.StepsAs.TheVariants.{AllLines, Lines, Picture}
use Rattle.acc_driver.specs.Replays.{AreUsable}
use Rattle.acc_explore.specs.declared.reports.Form.TheVariants.{Short, Whole}
use Rattle.clap.specs.Words.{App, Kinds, Row, Rule, Text, fault_of, first_of, new_app, new_rule, subcommand_of, with_rule, with_subcommand}
use Rattle.accq.specs.declared.command.Check.{Check}
use Rattle.accq.specs.declared.command.Explore.{Explore}
use Rattle.accq.specs.declared.command.Replay.{Replay}
use Rattle.accq.specs.declared.command.Run.{Run}
use Rattle.accq.specs.declared.command.Steps.{Steps}
use Rattle.accq.specs.declared.command.Task.{Task}
use Rattle.accq.specs.declared.command.Test.{Test}
use Rattle.accq.specs.declared.command.Task.TheVariants as task
use Rattle.accq.specs.declared.words.TheConstants.{MAX_DEPTH, MAX_STATES}
use Rattle.clap.specs.Simple.{on_top}
use Rattle.clap.specs.declared.builder.ArgAction.TheVariants.{Set, SetTrue}
use Rattle.clap.specs.declared.builder.value_parser.ValueParser.TheVariants.{Unsigned}

-- ## The words that there are

-- a name, which has to be there
abbrev pub name_rule : Text → Rule
name_rule id = record (new_rule id) { required = true; action = Some Set }

-- an option with a number from 1 to the most, which may be missing
abbrev pub optional_number_rule : Text → ℕ → Rule
optional_number_rule id most = record (new_rule id) { long = Some id; value_names = 1; parser = Some (Unsigned 1 most) }

-- such an option, and what it is where it isn't there
abbrev pub number_rule : Text → Text → ℕ → Rule
number_rule id default most = record (optional_number_rule id most) { defaults = default ∷ [] }

-- a name, which may be missing
abbrev pub optional_rule : Text → Rule
optional_rule id = record (new_rule id) { action = Some Set }

-- a flag
abbrev pub flag_rule : Text → Rule
flag_rule id = record (new_rule id) { long = Some id; action = Some SetTrue }

-- [--devices N]
abbrev pub with_devices : App → App
with_devices app = with_rule app (number_rule (codes "devices") (codes "1") MAX_DEVICES)

-- [--devices N] [--cells N] [--room N]
abbrev pub with_options : App → App
with_options app =
    with_rule (with_rule (with_devices app)
    (number_rule (codes "cells") (codes "4194304") MAX_CAPACITY)) (number_rule (codes "room") (codes "64") MAX_ROOM)

-- accq replay SCRIPT SCHEDULE, with options
abbrev pub replay_app : App
replay_app = with_options (with_rule (with_rule (new_app (codes "replay")) (name_rule (codes "SCRIPT"))) (name_rule (codes "SCHEDULE")))

-- accq run SCRIPT [--progress], with options
abbrev pub run_app : App
run_app = with_options (with_rule (with_rule (new_app (codes "run")) (name_rule (codes "SCRIPT"))) (flag_rule (codes "progress")))

-- accq steps SCRIPT [SCHEDULE] [--idle] [--picture], with options
abbrev pub steps_app : App
steps_app =
    with_options (with_rule (with_rule (with_rule (with_rule (new_app (codes "steps")) (name_rule (codes "SCRIPT"))) (optional_rule (codes "SCHEDULE")))
    (flag_rule (codes "idle"))) (flag_rule (codes "picture")))

-- accq explore SCRIPT [SCHEDULE] [--states N] [--close] [--short] [--depth N], with options
abbrev pub explore_app : App
explore_app =
    with_options (with_rule (with_rule (with_rule (with_rule (with_rule (with_rule (new_app (codes "explore")) (name_rule (codes "SCRIPT"))) (optional_rule (codes "SCHEDULE")))
    (number_rule (codes "states") (codes "1000000") MAX_STATES)) (flag_rule (codes "close"))) (flag_rule (codes "short")))
    (optional_number_rule (codes "depth") MAX_DEPTH))

-- accq check SCRIPT [SCHEDULE] [--devices N]
abbrev pub check_app : App
check_app = with_devices (with_rule (with_rule (new_app (codes "check")) (name_rule (codes "SCRIPT"))) (optional_rule (codes "SCHEDULE")))

-- accq explain WORD
abbrev pub explain_app : App
explain_app = with_rule (new_app (codes "explain")) (name_rule (codes "WORD"))

-- accq test FOLDER [--bless], with options
abbrev pub test_app : App
test_app = with_options (with_rule (with_rule (new_app (codes "test")) (name_rule (codes "FOLDER"))) (flag_rule (codes "bless")))

abbrev pub accq_app : App
accq_app =
    with_subcommand (with_subcommand (with_subcommand (with_subcommand (with_subcommand (with_subcommand (with_subcommand
    (on_top (λ s. record s { has_version = true; subcommand_required = true }) (new_app (codes "accq")))
    replay_app.top) run_app.top) steps_app.top) explore_app.top) check_app.top) explain_app.top) test_app.top

-- ## What they mean

-- Two files are to be replayed, by their names, under options.
pub record AskedReplay : Type 0 where
  pub script : Text
  pub schedule : Text
  pub options : Options

-- The script of a file is to be run, by its name, under options; and whether it is told how far the run has come.
pub record AskedRun : Type 0 where
  pub script : Text
  pub options : Options
  pub progress : Bool

-- The replay of files is to be shown step by step, by their names, under options, and how: a script and a schedule, or, where there is no second,
-- one that may hold both.
pub record AskedSteps : Type 0 where
  pub script : Text
  pub schedule : Option Text
  pub options : Options
  pub form : StepsAs

-- The runs of a script are to be explored, by the names of its file and of that of a schedule behind which they go on, if there is one; under options;
-- how far, and how that is told.
pub record AskedExplore : Type 0 where
  pub script : Text
  pub schedule : Option Text
  pub options : Options
  pub exploring : Exploring

-- Files are to be checked, by their names, for so many devices: a script and a schedule, or, where there is no second, one that may hold both.
pub record AskedCheck : Type 0 where
  pub script : Text
  pub schedule : Option Text
  pub devices : ℕ

-- The cases of a folder are to be tested, by its name, under options that they have in common; and whether their reports are written anew.
pub record AskedTest : Type 0 where
  pub folder : Text
  pub options : Options
  pub bless : Bool

-- What words can ask for: a replay, a run, the steps of a replay, an exploration, a check, what the guide says of what a word names, or a test.
pub data Asked : Type 0 where
  ToReplay : AskedReplay → Asked
  ToRun : AskedRun → Asked
  ToShow : AskedSteps → Asked
  ToExplore : AskedExplore → Asked
  ToCheck : AskedCheck → Asked
  ToExplain : Text → Asked
  ToTest : AskedTest → Asked

abbrev pub number_given : List Row → Text → ℕ → Option ℕ
number_given rows id most = option_and_then (number_in most) (first_of id rows)

abbrev pub options_given : List Row → Option Options
options_given rows =
    option_and_then (λ devices. option_and_then (λ cells. option_map (λ room. record { devices = devices; cells = cells; room = room })
    (number_given rows (codes "room") MAX_ROOM)) (number_given rows (codes "cells") MAX_CAPACITY)) (number_given rows (codes "devices") MAX_DEVICES)

abbrev pub replay_in : List Row → Option AskedReplay
replay_in rows =
    option_and_then (λ options. option_and_then (λ script. option_map (λ schedule. record { script = script; schedule = schedule; options = options })
    (first_of (codes "SCHEDULE") rows)) (first_of (codes "SCRIPT") rows)) (options_given rows)

-- a flag stands there
abbrev pub is_true : Option Text → Bool
is_true None = false
is_true (Some text) = bytes_eq text (codes "true")

abbrev pub has_flag : List Row → Text → Bool
has_flag rows id = is_true (first_of id rows)

abbrev pub run_in : List Row → Option AskedRun
run_in rows =
    option_and_then (λ options. option_map (λ script. record { script = script; options = options; progress = has_flag rows (codes "progress") })
    (first_of (codes "SCRIPT") rows)) (options_given rows)

-- how steps are shown, by flags: as a picture, or as lines, of all events where that is asked for
abbrev pub form_in : List Row → StepsAs
form_in rows = if has_flag rows (codes "picture") then Picture else (if has_flag rows (codes "idle") then AllLines else Lines)

abbrev pub steps_in : List Row → Option AskedSteps
steps_in rows =
    option_and_then (λ options. option_map (λ script. record { script = script; schedule = first_of (codes "SCHEDULE") rows; options = options; form = form_in rows })
    (first_of (codes "SCRIPT") rows)) (options_given rows)

-- what is told of an exploration: each report, on one line where the short form is asked for; or, where a depth stands there, prefixes, which have no
-- short form
abbrev pub aim_of : Option Text → Bool → Option Aim
aim_of None short = Some (Reports (if short then Short else Whole))
aim_of (Some depth) false = option_map Prefixes (number_in MAX_DEPTH depth)
aim_of (Some depth) true = None

abbrev pub aim_in : List Row → Option Aim
aim_in rows = aim_of (first_of (codes "depth") rows) (has_flag rows (codes "short"))

abbrev pub exploring_in : List Row → Option Exploring
exploring_in rows =
    option_and_then (λ states. option_map (λ aim. record { closing = has_flag rows (codes "close"); states = states; aim = aim }) (aim_in rows))
    (number_given rows (codes "states") MAX_STATES)

abbrev pub explore_in : List Row → Option AskedExplore
explore_in rows =
    option_and_then (λ options. option_and_then (λ exploring. option_map (λ script.
    record { script = script; schedule = first_of (codes "SCHEDULE") rows; options = options; exploring = exploring })
    (first_of (codes "SCRIPT") rows)) (exploring_in rows)) (options_given rows)

abbrev pub check_in : List Row → Option AskedCheck
check_in rows =
    option_and_then (λ devices. option_map (λ script. record { script = script; schedule = first_of (codes "SCHEDULE") rows; devices = devices })
    (first_of (codes "SCRIPT") rows)) (number_given rows (codes "devices") MAX_DEVICES)

abbrev pub test_in : List Row → Option AskedTest
test_in rows =
    option_and_then (λ options. option_map (λ folder. record { folder = folder; options = options; bless = has_flag rows (codes "bless") })
    (first_of (codes "FOLDER") rows)) (options_given rows)

-- what is asked for behind the name of a subcommand
abbrev pub asked_behind : Text → List Row → Option Asked
asked_behind name rows =
    if bytes_eq name (codes "run") then option_map ToRun (run_in rows)
    else (if bytes_eq name (codes "steps") then option_map ToShow (steps_in rows)
    else (if bytes_eq name (codes "explore") then option_map ToExplore (explore_in rows)
    else (if bytes_eq name (codes "check") then option_map ToCheck (check_in rows)
    else (if bytes_eq name (codes "explain") then option_map ToExplain (first_of (codes "WORD") rows)
    else (if bytes_eq name (codes "test") then option_map ToTest (test_in rows) else option_map ToReplay (replay_in rows))))))

-- what was found, unless there is an error of some kind
abbrev pub unless_any : {A : Type 0} → Kinds → Option A → Option A
unless_any [] found = found
unless_any (k ∷ kinds) found = None

-- What words ask for, the program's own name among them; nothing where they are at fault, or ask for help or the version.
abbrev pub asked_of : List Text → Option Asked
asked_of words = unless_any (fault_of accq_app words) (option_and_then (λ p. asked_behind p.0 p.1) (subcommand_of accq_app words))

-- what is replayed
abbrev pub replay_by : Replay → AskedReplay
replay_by r = record { script = r.script.now; schedule = r.schedule.now; options = r.options }

-- what is run
abbrev pub run_by : Run → AskedRun
run_by r = record { script = r.script.now; options = r.options; progress = r.progress }

-- whose steps are shown
abbrev pub steps_by : Steps → AskedSteps
steps_by s = record { script = s.script.now; schedule = option_map (λ n. n.now) s.schedule; options = s.options; form = s.form }

-- what is explored
abbrev pub explore_by : Explore → AskedExplore
explore_by e = record { script = e.script.now; schedule = option_map (λ n. n.now) e.schedule; options = e.options; exploring = e.exploring }

-- what is checked
abbrev pub check_by : Check → AskedCheck
check_by c = record { script = c.script.now; schedule = option_map (λ s. s.now) c.schedule; devices = c.devices }

-- what is tested
abbrev pub test_by : Test → AskedTest
test_by t = record { folder = t.folder.now; options = t.options; bless = t.bless }

-- what is done
abbrev pub asked_by : Task → Asked
asked_by (task.Replay r) = ToReplay (replay_by r)
asked_by (task.Run r) = ToRun (run_by r)
asked_by (task.Steps s) = ToShow (steps_by s)
asked_by (task.Explore e) = ToExplore (explore_by e)
asked_by (task.Check c) = ToCheck (check_by c)
asked_by (task.Explain e) = ToExplain e.word.now
asked_by (task.Test t) = ToTest (test_by t)

-- Its options are within their limits.
abbrev pub IsUsable : Task → Type 0
IsUsable (task.Replay r) = AreUsable r.options
IsUsable (task.Run r) = AreUsable r.options
IsUsable (task.Steps s) = AreUsable s.options
IsUsable (task.Explore e) = AreUsable e.options
IsUsable (task.Check c) = (1 ≤ c.devices) × (c.devices ≤ MAX_DEVICES)
IsUsable (task.Explain e) = Unit {0}
IsUsable (task.Test t) = AreUsable t.options
