-- What is known of each of two texts that are checked. Only private contracts and proofs cite it.
use Rattle.std.specs.Prelude.{◌≡◌, ℕ, Bool, true, false, List, length, Ok}
use Rattle.acc_host.specs.declared.event.Event.{Event}
use Rattle.acc_driver.specs.declared.checks.CheckFault.{CheckFault}
use Rattle.acc_driver.specs.declared.checks.CheckFault.TheVariants as fault
use Rattle.acc_driver.specs.Replays.{IsScript}
use Rattle.acc_schedule.specs.Schedules.{schedule_of}
use Rattle.acc_script.specs.Scripts.{ScriptView, script_of}

-- The text is a script of so many hosts.
pub record IsScriptOf (hosts : ℕ) (text : List ℕ) : Type 0 where
  pub program : ScriptView
  pub script : script_of text ≡ Ok program
  pub hosts_are : hosts ≡ length program.programs

abbrev pub IsNoScript : List ℕ → Type 0
IsNoScript text = IsScript text → ⊥

abbrev pub IsSchedule : ℕ → ℕ → List ℕ → Type 0
IsSchedule hosts devices text = (events : List Event) × (schedule_of hosts devices text ≡ Ok events)

-- It is told whether the text is a schedule of so many hosts, for so many devices.
abbrev pub IsScheduleFor : ℕ → ℕ → List ℕ → Bool → Type 0
IsScheduleFor hosts devices text true = IsSchedule hosts devices text
IsScheduleFor hosts devices text false = IsSchedule hosts devices text → ⊥

-- Why a text was not read to its end.
abbrev pub IsUnread : CheckFault → Type 0
IsUnread (fault.Input name) = Unit {0}
IsUnread fault.Output = ⊥
IsUnread fault.Memory = Unit {0}

-- Why it was not told what is wrong with a text.
abbrev pub IsUntold : CheckFault → Type 0
IsUntold (fault.Input name) = ⊥
IsUntold fault.Output = Unit {0}
IsUntold fault.Memory = Unit {0}
