-- What a case says, and what comes of it.
use Rattle.std.specs.Prelude.{◌≡◌, ◌++◌, ◌⊎◌, ℕ, Bool, true, false, List, [], length, option_map, Option, Some, None, IsSome, Result, Ok, Err, codes, nat_lt, if◌then◌else◌}
use Rattle.acc_driver.specs.Inputs.{Parts, parts}
use Rattle.acc_driver.specs.Replays.{Answers}
use Rattle.acc_driver.specs.declared.fault.DriverFault.{DriverFault}
use Rattle.acc_driver.specs.declared.options.Ended.{Ended}
use Rattle.acc_driver.specs.declared.options.Options.{Options}
use Rattle.acc_cases.specs.declared.case.Case.{Case}
use Rattle.acc_cases.specs.declared.fault.CaseFault.{CaseFault}
use Rattle.acc_cases.specs.declared.fault.CaseFault.TheVariants as fault
use Rattle.acc_cases.specs.declared.fault.Kind.{Kind}
use Rattle.acc_cases.specs.declared.fault.Kind.TheVariants.{Script, Schedule, Line, Report}
use Rattle.acc_cases.specs.Folders.{File, file_bytes}
use Rattle.acc_cases.specs.Options.{options_in}

-- ## The files of a case

abbrev pub ending_of : Kind → List ℕ
ending_of Script = codes ".acc"
ending_of Schedule = codes ".schedule"
ending_of Line = codes ".options"
ending_of Report = codes ".report"

-- what a case's file of a kind holds, if there is one
abbrev pub held : List File → List ℕ → Kind → Option (List ℕ)
held fs name kind = file_bytes fs (name ++ ending_of kind)

-- What a case is asked with: its script, maybe with a schedule behind it, the schedule of its own, the line of its options, and the options that all cases
-- have in common.
pub record AskedCase : Type 0 where
  pub script : List ℕ
  pub schedule : Option (List ℕ)
  pub line : Option (List ℕ)
  pub common : Options

-- a case of this name is asked with what its files hold
abbrev pub asked_in : List File → List ℕ → Options → List ℕ → AskedCase
asked_in fs name common script = record { script = script; schedule = held fs name Schedule; line = held fs name Line; common = common }

-- ## What it says

-- there is a line that parts it
abbrev pub is_parted : List ℕ → Bool
is_parted text = nat_lt (length (parts text).script) (length text)

-- The schedule stands behind a line that parts the script from it, or in a file of its own, and not in both.
abbrev pub texts_of : List ℕ → Option (List ℕ) → Option Parts
texts_of script None = if is_parted script then Some (parts script) else None
texts_of script (Some schedule) = if is_parted script then None else Some (record { script = script; schedule = schedule })

-- without a line the options are the common ones
abbrev pub options_by : Options → Option (List ℕ) → Option Options
options_by common None = Some common
options_by common (Some line) = options_in common line

-- ## What comes

-- The line that tells why there is no report.
pub record IsFaultLine (line : List ℕ) : Type 0 where
  pub text : List ℕ
  pub told : line ≡ (codes "accq: " ++ text) ++ codes "\n"

-- What came is the report, or where there is none the line that tells why.
abbrev pub CameFrom : Result Ended DriverFault → List ℕ → List ℕ → Type 0
CameFrom (Ok ended) written came = came ≡ written
CameFrom (Err f) written came = IsFaultLine came

-- What comes of two texts is what a replay answers and writes.
pub record Came (options : Options) (texts : Parts) (came : List ℕ) : Type 0 where
  pub answer : Result Ended DriverFault
  pub written : List ℕ
  pub answers : Answers options texts (Some []) (Some written) answer
  pub from : CameFrom answer written came

-- What comes of a case.
pub record AskedComes (asked : AskedCase) (came : List ℕ) : Type 0 where
  pub texts : Parts
  pub options : Options
  pub says : texts_of asked.script asked.schedule ≡ Some texts
  pub under : options_by asked.common asked.line ≡ Some options
  pub replayed : Came options texts came

-- Why a case has no two texts: its script isn't parted and it has no schedule, or it has two of them.
abbrev pub IsTextsFault : List ℕ → Option (List ℕ) → CaseFault → Type 0
IsTextsFault script schedule (fault.Unread Schedule) = (is_parted script ≡ false) × (schedule ≡ None)
IsTextsFault script schedule (fault.Unread Script) = ⊥
IsTextsFault script schedule (fault.Unread Line) = ⊥
IsTextsFault script schedule (fault.Unread Report) = ⊥
IsTextsFault script schedule fault.TwoSchedules = (is_parted script ≡ true) × IsSome schedule
IsTextsFault script schedule (fault.Options word) = ⊥
IsTextsFault script schedule fault.Unwritten = ⊥
IsTextsFault script schedule fault.Memory = ⊥

-- Why it has no options.
abbrev pub IsLineFault : Options → Option (List ℕ) → CaseFault → Type 0
IsLineFault common line (fault.Options word) = options_by common line ≡ None
IsLineFault common line fault.Memory = Unit {0}
IsLineFault common line (fault.Unread kind) = ⊥
IsLineFault common line fault.TwoSchedules = ⊥
IsLineFault common line fault.Unwritten = ⊥

-- Why nothing comes of a case.
abbrev pub IsFaultOf : AskedCase → CaseFault → Type 0
IsFaultOf asked f = IsTextsFault asked.script asked.schedule f ⊎ IsLineFault asked.common asked.line f

-- Why a case isn't read: there is no script, or no memory.
abbrev pub IsUnread : List File → List ℕ → CaseFault → Type 0
IsUnread fs name f = ((f ≡ fault.Unread Script) × (held fs name Script ≡ None)) ⊎ (f ≡ fault.Memory)

abbrev pub asked_case : Case → AskedCase
asked_case case = record { script = case.script.items; schedule = option_map (λ v. v.items) case.schedule; line = option_map (λ v. v.items) case.line; common = case.common }

-- The case of a name comes to this.
pub record CaseComes (fs : List File) (name : List ℕ) (common : Options) (came : List ℕ) : Type 0 where
  pub script : List ℕ
  pub read : held fs name Script ≡ Some script
  pub comes : AskedComes (asked_in fs name common script) came

-- Why nothing comes of the case of a name.
pub record IsAskedFault (fs : List File) (name : List ℕ) (common : Options) (f : CaseFault) : Type 0 where
  pub script : List ℕ
  pub read : held fs name Script ≡ Some script
  pub faulty : IsFaultOf (asked_in fs name common script) f

abbrev pub IsCaseFault : List File → List ℕ → Options → CaseFault → Type 0
IsCaseFault fs name common f = IsUnread fs name f ⊎ IsAskedFault fs name common f
