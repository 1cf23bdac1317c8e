-- The status that the program ends with, and what it has written by then.
use Rattle.std.specs.Prelude.{◌≡◌, ◌≢◌, ◌⊎◌, ◌==◌, ◌||◌, not, ℕ, Bool, true, false, List, [], Option, Some, None, IfSome, Result, Ok, Err, if◌then◌else◌}
use Rattle.std.specs.Io.KnownBytes.{Appends}
use Rattle.acc_driver.specs.declared.checks.CheckFault.{CheckFault}
use Rattle.acc_driver.specs.declared.explorations.Explored.{Explored}
use Rattle.acc_driver.specs.declared.explorations.Explored.TheVariants.{Prefixes, Reports}
use Rattle.acc_driver.specs.declared.fault.DriverFault.{DriverFault}
use Rattle.acc_driver.specs.declared.fault.DriverFault.TheVariants as fault
use Rattle.acc_driver.specs.declared.options.Ended.{Ended}
use Rattle.acc_driver.specs.Checks.{ChecksTexts}
use Rattle.acc_driver.specs.Explorations.{ExploreAnswer, script_alone}
use Rattle.acc_driver.specs.Inputs.{parts}
use Rattle.acc_driver.specs.Replays.{Answers, IsRun, defaults}
use Rattle.acc_driver.specs.Runs.{IsConfigured, ScriptAnswers}
use Rattle.acc_driver.specs.Steps.{StepsAnswer}
use Rattle.acc_cases.specs.Folders.{File}
use Rattle.acc_cases.specs.Runs.{TestedAll}
use Rattle.acc_cases.specs.declared.run.Tally.{Tally}
use Rattle.acc_cases.specs.declared.run.TestFault.{TestFault}
use Rattle.acc_cases.specs.declared.run.TestFault.TheVariants.{Folder as NotListed}
use Rattle.accq.specs.Explanations.{text_for}
use Rattle.accq.specs.Words.{Asked, AskedCheck, AskedExplore, AskedReplay, AskedRun, AskedSteps, AskedTest, ToCheck, ToExplain, ToExplore, ToReplay, ToRun, ToShow, ToTest}

-- ## Replays and runs

abbrev pub status_for : DriverFault → ℕ
status_for (fault.Script f) = 2
status_for (fault.Schedule f) = 2
status_for fault.Input = 3
status_for fault.Output = 3
status_for fault.Memory = 3
status_for (fault.Runtime f) = 3

abbrev pub status_after : Result Ended DriverFault → ℕ
status_after (Ok ended) = if ended.refused then 1 else 0
status_after (Err f) = status_for f

-- The input was replayed with the default options, and the status follows. Where it is known what the input has, that was answered.
pub record InputReplayed (input old new : Option (List ℕ)) (status : ℕ) : Type 0 where
  pub answer : Result Ended DriverFault
  pub answers : IfSome input (λ text. Answers defaults (parts text) old new answer)
  pub run : IsRun answer
  pub follows : status ≡ status_after answer

-- What is answered where two files are to be replayed, if it is known what they hold.
abbrev pub FilesAnswer : (List ℕ → Option (List ℕ)) → AskedReplay → Option (List ℕ) → Option (List ℕ) → Result Ended DriverFault → Type 0
FilesAnswer holds asked old new answer =
    IfSome (holds asked.script) (λ script. IfSome (holds asked.schedule) (λ schedule.
    Answers asked.options (record { script = script; schedule = schedule }) old new answer))

-- A file that is known not to be opened is told as one that can't be read, whatever stands in the other one.
abbrev pub AsksForOpen : {A : Type 0} → Option Bool → Result A DriverFault → Type 0
AsksForOpen can answer = can ≡ Some false → answer ≡ Err fault.Input

-- The two files that are asked for were replayed, with the options that are, and the status follows.
pub record FilesReplayed (asked : AskedReplay) (holds : List ℕ → Option (List ℕ)) (opens : List ℕ → Option Bool) (old new : Option (List ℕ)) (status : ℕ) : Type 0 where
  pub answer : Result Ended DriverFault
  pub answers : FilesAnswer holds asked old new answer
  pub script : AsksForOpen (opens asked.script) answer
  pub schedule : AsksForOpen (opens asked.schedule) answer
  pub run : IsRun answer
  pub follows : status ≡ status_after answer

-- The script of the file that is asked for was run, with the options that are, and the status follows.
pub record FileRun (asked : AskedRun) (holds : List ℕ → Option (List ℕ)) (opens : List ℕ → Option Bool) (old new : Option (List ℕ)) (status : ℕ) : Type 0 where
  pub answer : Result Ended DriverFault
  pub answers : IfSome (holds asked.script) (λ script. ScriptAnswers asked.options script old new answer)
  pub script : AsksForOpen (opens asked.script) answer
  pub configured : IsConfigured answer
  pub follows : status ≡ status_after answer

-- ## Steps

-- as that of a replay; 3 for a picture that would be too long
abbrev pub status_shown : Result (Option Ended) DriverFault → ℕ
status_shown (Ok (Some ended)) = status_after (Ok ended)
status_shown (Ok None) = 3
status_shown (Err f) = status_for f

-- What is answered where the steps of files are to be shown, if it is known what they hold: a script and a schedule, or one text that is split.
abbrev pub StepsOfFiles : (List ℕ → Option (List ℕ)) → AskedSteps → Option (List ℕ) → Option (List ℕ) → Option (List ℕ) → Result (Option Ended) DriverFault → Type 0
StepsOfFiles holds asked None old new answer = IfSome (holds asked.script) (λ text. StepsAnswer asked.options asked.form (parts text) old new answer)
StepsOfFiles holds asked (Some schedule) old new answer =
    IfSome (holds asked.script) (λ script. IfSome (holds schedule) (λ schedule.
    StepsAnswer asked.options asked.form (record { script = script; schedule = schedule }) old new answer))

-- The steps of the files that are asked for were shown as is asked for, with the options that are, and the status follows.
pub record StepsAnswered (asked : AskedSteps) (holds : List ℕ → Option (List ℕ)) (opens : List ℕ → Option Bool) (old new : Option (List ℕ)) (status : ℕ) : Type 0 where
  pub answer : Result (Option Ended) DriverFault
  pub answers : StepsOfFiles holds asked asked.schedule old new answer
  pub script : AsksForOpen (opens asked.script) answer
  pub schedule : IfSome asked.schedule (λ name. AsksForOpen (opens name) answer)
  pub follows : status ≡ status_shown answer

-- ## Explorations

-- 0 where there is one report, and no host was refused in it; 1 for several, or where one was; 3 where there may be more. Of prefixes 0, or 3 where some
-- are shorter than was asked for.
abbrev pub status_explored : Result Explored DriverFault → ℕ
status_explored (Ok (Reports counts)) =
    if not counts.whole then 3 else (if counts.refused || not (counts.reports == 1) then 1 else 0)
status_explored (Ok (Prefixes count)) = if count.whole then 0 else 3
status_explored (Err f) = status_for f

-- What is answered where the runs of a script are to be explored, if it is known what the files hold: its file may hold a schedule too, which is left
-- aside where no schedule is named.
abbrev pub ExploreOfFiles : (List ℕ → Option (List ℕ)) → AskedExplore → Option (List ℕ) → Option (List ℕ) → Option (List ℕ) → Result Explored DriverFault → Type 0
ExploreOfFiles holds asked None old new answer =
    IfSome (holds asked.script) (λ text. ExploreAnswer asked.options asked.exploring (script_alone text) old new answer)
ExploreOfFiles holds asked (Some schedule) old new answer =
    IfSome (holds asked.script) (λ script. IfSome (holds schedule) (λ schedule.
    ExploreAnswer asked.options asked.exploring (record { script = script; schedule = schedule }) old new answer))

-- The runs that are asked for were explored, and the status follows.
pub record FilesExplored (asked : AskedExplore) (holds : List ℕ → Option (List ℕ)) (opens : List ℕ → Option Bool) (old new : Option (List ℕ)) (status : ℕ) : Type 0 where
  pub answer : Result Explored DriverFault
  pub answers : ExploreOfFiles holds asked asked.schedule old new answer
  pub script : AsksForOpen (opens asked.script) answer
  pub schedule : IfSome asked.schedule (λ name. AsksForOpen (opens name) answer)
  pub follows : status ≡ status_explored answer

-- ## Checks

-- 0 where nothing is wrong, 2 where something is, 3 where that couldn't be told
abbrev pub status_checked : Result Bool CheckFault → ℕ
status_checked (Ok true) = 0
status_checked (Ok false) = 2
status_checked (Err f) = 3

-- What is answered where files are to be checked, if it is known what they hold: a script and a schedule, or one text that is split.
abbrev pub FilesCheck : (List ℕ → Option (List ℕ)) → List ℕ → Option (List ℕ) → ℕ → Option (List ℕ) → Option (List ℕ) → Result Bool CheckFault → Type 0
FilesCheck holds script None devices old new answer = IfSome (holds script) (λ text. ChecksTexts devices (parts text) old new answer)
FilesCheck holds script (Some schedule) devices old new answer =
    IfSome (holds script) (λ script. IfSome (holds schedule) (λ schedule. ChecksTexts devices (record { script = script; schedule = schedule }) old new answer))

-- Where a file is known not to be opened, nothing is written, and the status is 3.
abbrev pub NeedsOpen : Option Bool → Option (List ℕ) → Option (List ℕ) → ℕ → Type 0
NeedsOpen can old new status = can ≡ Some false → Appends old new [] × (status ≡ 3)

-- The files that are asked for were checked, for as many devices, and the status follows.
pub record FilesChecked (asked : AskedCheck) (holds : List ℕ → Option (List ℕ)) (opens : List ℕ → Option Bool) (old new : Option (List ℕ)) (status : ℕ) : Type 0 where
  pub answer : Result Bool CheckFault
  pub answers : FilesCheck holds asked.script asked.schedule asked.devices old new answer
  pub script : NeedsOpen (opens asked.script) old new status
  pub schedule : IfSome asked.schedule (λ name. NeedsOpen (opens name) old new status)
  pub follows : status ≡ status_checked answer

-- ## Explanations

-- A word that names a fault has its text written, and the status is 0, or 3 where the output fails. Of another word nothing is written, and it is 2.
abbrev pub Explains : Option (List ℕ) → Option (List ℕ) → Option (List ℕ) → ℕ → Type 0
Explains None old new status = Appends old new [] × (status ≡ 2)
Explains (Some text) old new status = (Appends old new text × (status ≡ 0)) ⊎ (status ≡ 3)

-- ## Cases

-- 0 where no case fails, 1 where one does, 3 where not all were told
abbrev pub status_tested : Result Tally TestFault → ℕ
status_tested (Ok tally) = if tally.failed == 0 then 0 else 1
status_tested (Err f) = 3

-- What a test of a folder's files answers: the counts of its cases, each tested as is asked for, or why not all were told, which is not that the folder can't be
-- listed.
abbrev pub FolderAnswers : AskedTest → List File → Option (List File) → Result Tally TestFault → Type 0
FolderAnswers asked fs new (Ok tally) = TestedAll fs asked.options asked.bless tally new
FolderAnswers asked fs new (Err f) = f ≢ NotListed

-- The cases of the folder that is asked for were tested, and the status follows.
pub record FolderTested (asked : AskedTest) (files_in : List ℕ → Option (List File)) (status : ℕ) : Type 0 where
  pub answer : Result Tally TestFault
  pub new : Option (List File)
  pub answers : IfSome (files_in asked.folder) (λ fs. FolderAnswers asked fs new answer)
  pub follows : status ≡ status_tested answer

-- ## Words

-- It was done.
abbrev pub IsDone : Asked → (List ℕ → Option (List ℕ)) → (List ℕ → Option Bool) → (List ℕ → Option (List File)) → Option (List ℕ) → Option (List ℕ) → ℕ → Type 0
IsDone (ToReplay asked) holds opens files_in old new status = FilesReplayed asked holds opens old new status
IsDone (ToRun asked) holds opens files_in old new status = FileRun asked holds opens old new status
IsDone (ToShow asked) holds opens files_in old new status = StepsAnswered asked holds opens old new status
IsDone (ToExplore asked) holds opens files_in old new status = FilesExplored asked holds opens old new status
IsDone (ToCheck asked) holds opens files_in old new status = FilesChecked asked holds opens old new status
IsDone (ToExplain word) holds opens files_in old new status = Explains (text_for word) old new status
IsDone (ToTest asked) holds opens files_in old new status = FolderTested asked files_in status

-- What words come to. Where they ask for nothing, nothing is written, and the status is 2, or 3 for want of memory. What they ask for is done, unless there
-- is no memory to read the words.
abbrev pub TellsWords : Option Asked → (List ℕ → Option (List ℕ)) → (List ℕ → Option Bool) → (List ℕ → Option (List File)) → Option (List ℕ) → Option (List ℕ) → ℕ → Type 0
TellsWords None holds opens files_in old new status = Appends old new [] × ((status ≡ 2) ⊎ (status ≡ 3))
TellsWords (Some asked) holds opens files_in old new status = (Appends old new [] × (status ≡ 3)) ⊎ IsDone asked holds opens files_in old new status
