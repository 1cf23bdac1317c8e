-- Words, and what they ask for.
use Rattle.std.specs.Prelude.{◌≡◌, ℕ, Bool, true, false, List, [], ◌∷◌, Option, Some, None, codes}
use Rattle.clap.specs.Words.{Text}
use Rattle.acc_driver.specs.Replays.{defaults}
use Rattle.acc_driver.specs.declared.steps.StepsAs.{StepsAs}
use Rattle.acc_driver.specs.declared.steps.StepsAs.TheVariants.{AllLines, Lines, Picture}
use Rattle.acc_driver.specs.declared.explorations.Aim.{Aim}
use Rattle.acc_driver.specs.declared.explorations.Aim.TheVariants.{Prefixes, Reports}
use Rattle.acc_explore.specs.declared.reports.Form.TheVariants.{Short, Whole}
use Rattle.accq.specs.Words.{Asked, ToCheck, ToExplain, ToExplore, ToReplay, ToRun, ToShow, ToTest, asked_of}

-- a replay of the files a and b, with these options
abbrev pub asks : ℕ → ℕ → ℕ → Option Asked
asks devices cells room =
    Some (ToReplay (record { script = codes "a"; schedule = codes "b"; options = record { devices = devices; cells = cells; room = room } }))

-- a run of the file a, with these options, that is told or not
abbrev pub asks_to_run : ℕ → ℕ → ℕ → Bool → Option Asked
asks_to_run devices cells room progress =
    Some (ToRun (record { script = codes "a"; options = record { devices = devices; cells = cells; room = room }; progress = progress }))

-- a check of the file a and this schedule, for so many devices
abbrev pub asks_to_check : Option Text → ℕ → Option Asked
asks_to_check schedule devices = Some (ToCheck (record { script = codes "a"; schedule = schedule; devices = devices }))

-- the steps of a replay of the file a and this schedule, with default options, shown so
abbrev pub asks_for_steps : Option Text → StepsAs → Option Asked
asks_for_steps schedule form = Some (ToShow (record { script = codes "a"; schedule = schedule; options = defaults; form = form }))

-- behind `accq steps`
abbrev pub steps : List Text → Option Asked
steps words = asked_of (codes "accq" ∷ codes "steps" ∷ words)

-- an exploration of the file a behind this schedule, with default options, so far, of which this is told
abbrev pub asks_to_explore : Option Text → Bool → ℕ → Aim → Option Asked
asks_to_explore schedule closing states aim =
    Some (ToExplore (record { script = codes "a"; schedule = schedule; options = defaults; exploring = record { closing = closing; states = states; aim = aim } }))

-- behind `accq explore`
abbrev pub explore : List Text → Option Asked
explore words = asked_of (codes "accq" ∷ codes "explore" ∷ words)

-- a test of the folder a, for so many devices, whose reports are written anew or not
abbrev pub asks_to_test : ℕ → Bool → Option Asked
asks_to_test devices bless =
    Some (ToTest (record { folder = codes "a"; options = record { devices = devices; cells = 4194304; room = 64 }; bless = bless }))

-- behind `accq replay`
abbrev pub replay : List Text → Option Asked
replay words = asked_of (codes "accq" ∷ codes "replay" ∷ words)

-- behind `accq run`
abbrev pub run : List Text → Option Asked
run words = asked_of (codes "accq" ∷ codes "run" ∷ words)

-- behind `accq check`
abbrev pub check : List Text → Option Asked
check words = asked_of (codes "accq" ∷ codes "check" ∷ words)

-- behind `accq test`
abbrev pub test : List Text → Option Asked
test words = asked_of (codes "accq" ∷ codes "test" ∷ words)

-- Two names behind `replay` alone, or one behind `run`, ask for the default options; one or two behind `check` for one device; one or
-- two behind `explore` for each report, a million states and no close;
-- `explain` has one word, and `test` one folder. An option stands before,
-- between or behind them, with `=` or without; a flag stands alone.
pub record AreAsked : Type 0 where
  pub names : replay (codes "a" ∷ codes "b" ∷ []) ≡ Some (ToReplay (record { script = codes "a"; schedule = codes "b"; options = defaults }))
  pub before : replay (codes "--devices" ∷ codes "4" ∷ codes "a" ∷ codes "b" ∷ []) ≡ asks 4 4194304 64
  pub between : replay (codes "a" ∷ codes "--cells=4294967296" ∷ codes "b" ∷ []) ≡ asks 1 4294967296 64
  pub behind : replay (codes "a" ∷ codes "b" ∷ codes "--room" ∷ codes "1024" ∷ []) ≡ asks 1 4194304 1024
  pub all : replay (codes "--room=1" ∷ codes "a" ∷ codes "--cells" ∷ codes "01" ∷ codes "--devices=2" ∷ codes "b" ∷ []) ≡ asks 2 1 1
  pub one_name : run (codes "a" ∷ []) ≡ Some (ToRun (record { script = codes "a"; options = defaults; progress = false }))
  pub around : run (codes "--room=1" ∷ codes "a" ∷ codes "--devices" ∷ codes "2" ∷ []) ≡ asks_to_run 2 4194304 1 false
  pub told : run (codes "--progress" ∷ codes "a" ∷ codes "--devices=2" ∷ []) ≡ asks_to_run 2 4194304 64 true
  pub behind_dashes : replay (codes "--devices=3" ∷ codes "--" ∷ codes "a" ∷ codes "b" ∷ []) ≡ asks 3 4194304 64
  pub one_file : check (codes "a" ∷ []) ≡ asks_to_check None 1
  pub two_files : check (codes "a" ∷ codes "b" ∷ []) ≡ asks_to_check (Some (codes "b")) 1
  pub word : asked_of (codes "accq" ∷ codes "explain" ∷ codes "F6" ∷ []) ≡ Some (ToExplain (codes "F6"))
  pub lines : steps (codes "a" ∷ codes "b" ∷ []) ≡ asks_for_steps (Some (codes "b")) Lines
  pub all_lines : steps (codes "a" ∷ codes "--idle" ∷ []) ≡ asks_for_steps None AllLines
  pub picture : steps (codes "--picture" ∷ codes "a" ∷ codes "b" ∷ codes "--idle" ∷ []) ≡ asks_for_steps (Some (codes "b")) Picture
  pub all_reports : explore (codes "a" ∷ []) ≡ asks_to_explore None false 1000000 (Reports Whole)
  pub reports_behind : explore (codes "--close" ∷ codes "a" ∷ codes "--states=7" ∷ codes "b" ∷ codes "--short" ∷ []) ≡ asks_to_explore (Some (codes "b")) true 7 (Reports Short)
  pub prefixes : explore (codes "a" ∷ codes "--depth=1" ∷ []) ≡ asks_to_explore None false 1000000 (Prefixes 1)
  pub prefixes_behind : explore (codes "a" ∷ codes "--depth" ∷ codes "1000000" ∷ codes "b" ∷ codes "--close" ∷ codes "--states=7" ∷ []) ≡ asks_to_explore (Some (codes "b")) true 7 (Prefixes 1000000)
  pub one_folder : test (codes "a" ∷ []) ≡ asks_to_test 1 false
  pub anew : test (codes "--bless" ∷ codes "a" ∷ codes "--devices=2" ∷ []) ≡ asks_to_test 2 true
  pub for_devices : check (codes "--devices" ∷ codes "4" ∷ codes "a" ∷ codes "b" ∷ []) ≡ asks_to_check (Some (codes "b")) 4

-- What asks for nothing: an option beyond its limits, not in digits alone or written twice, a name too few or too many, a word that there isn't, a
-- depth where the short form is asked for, and requests for help or the version.
pub record AreRefused : Type 0 where
  pub no_device : replay (codes "a" ∷ codes "b" ∷ codes "--devices" ∷ codes "0" ∷ []) ≡ None
  pub fifth_device : replay (codes "a" ∷ codes "b" ∷ codes "--devices" ∷ codes "5" ∷ []) ≡ None
  pub many_cells : replay (codes "a" ∷ codes "b" ∷ codes "--cells" ∷ codes "4294967297" ∷ []) ≡ None
  pub wide_room : replay (codes "a" ∷ codes "b" ∷ codes "--room" ∷ codes "1025" ∷ []) ≡ None
  pub plus : replay (codes "a" ∷ codes "b" ∷ codes "--devices" ∷ codes "+3" ∷ []) ≡ None
  pub twice : replay (codes "a" ∷ codes "b" ∷ codes "--room=1" ∷ codes "--room=1" ∷ []) ≡ None
  pub without_a_number : replay (codes "a" ∷ codes "b" ∷ codes "--room" ∷ []) ≡ None
  pub one_name : replay (codes "a" ∷ []) ≡ None
  pub no_name : run [] ≡ None
  pub a_schedule : run (codes "a" ∷ codes "b" ∷ []) ≡ None
  pub no_room : run (codes "a" ∷ codes "--room=0" ∷ []) ≡ None
  pub three_names : replay (codes "a" ∷ codes "b" ∷ codes "c" ∷ []) ≡ None
  pub unknown : replay (codes "a" ∷ codes "b" ∷ codes "--hosts=1" ∷ []) ≡ None
  pub no_subcommand : asked_of (codes "accq" ∷ codes "a" ∷ codes "b" ∷ []) ≡ None
  pub help : asked_of (codes "accq" ∷ codes "--help" ∷ []) ≡ None
  pub help_behind : replay (codes "a" ∷ codes "b" ∷ codes "-h" ∷ []) ≡ None
  pub progress_of_a_replay : replay (codes "a" ∷ codes "b" ∷ codes "--progress" ∷ []) ≡ None
  pub a_flag_with_a_value : run (codes "a" ∷ codes "--progress=true" ∷ []) ≡ None
  pub version : asked_of (codes "accq" ∷ codes "--version" ∷ []) ≡ None
  pub no_file : check [] ≡ None
  pub three_files : check (codes "a" ∷ codes "b" ∷ codes "c" ∷ []) ≡ None
  pub room_of_a_check : check (codes "a" ∷ codes "--room=1" ∷ []) ≡ None
  pub no_word : asked_of (codes "accq" ∷ codes "explain" ∷ []) ≡ None
  pub two_words : asked_of (codes "accq" ∷ codes "explain" ∷ codes "F6" ∷ codes "F7" ∷ []) ≡ None
  pub steps_of_no_file : steps [] ≡ None
  pub picture_of_a_replay : replay (codes "a" ∷ codes "b" ∷ codes "--picture" ∷ []) ≡ None
  pub no_script : explore (codes "--short" ∷ []) ≡ None
  pub no_states : explore (codes "a" ∷ codes "--states=0" ∷ []) ≡ None
  pub many_states : explore (codes "a" ∷ codes "--states" ∷ codes "10000001" ∷ []) ≡ None
  pub no_depth : explore (codes "a" ∷ codes "--depth=0" ∷ []) ≡ None
  pub great_depth : explore (codes "a" ∷ codes "--depth" ∷ codes "1000001" ∷ []) ≡ None
  pub plus_depth : explore (codes "a" ∷ codes "--depth=+3" ∷ []) ≡ None
  pub short_prefixes : explore (codes "a" ∷ codes "--depth=3" ∷ codes "--short" ∷ []) ≡ None
  pub close_of_a_run : run (codes "a" ∷ codes "--close" ∷ []) ≡ None
  pub no_folder : test (codes "--bless" ∷ []) ≡ None
  pub two_folders : test (codes "a" ∷ codes "b" ∷ []) ≡ None
  pub no_cells : test (codes "a" ∷ codes "--cells=0" ∷ []) ≡ None
  pub many_devices : check (codes "a" ∷ codes "--devices=5" ∷ []) ≡ None
