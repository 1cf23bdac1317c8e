-- What is answered to texts that are checked, and not run.
use Rattle.std.specs.Prelude.{◌≡◌, ℕ, Bool, true, false, List, [], length, Option, Result, Ok, Err}
use Rattle.std.specs.Io.KnownBytes.{Appends}
use Rattle.acc_host.specs.declared.event.Event.{Event}
use Rattle.acc_driver.specs.declared.checks.CheckFault.{CheckFault}
use Rattle.acc_driver.specs.declared.checks.CheckFault.TheVariants as fault
use Rattle.acc_driver.specs.Inputs.{Parts}
use Rattle.acc_schedule.specs.Schedules.{schedule_of}
use Rattle.acc_script.specs.Scripts.{ScriptView, script_of}

-- Nothing is wrong with two texts: the one is a script, and the other a schedule of its hosts, for so many devices.
pub record AreSound (devices : ℕ) (texts : Parts) : Type 0 where
  pub program : ScriptView
  pub events : List Event
  pub script : script_of texts.script ≡ Ok program
  pub schedule : schedule_of (length program.programs) devices texts.schedule ≡ Ok events

-- What is answered to two texts: whether nothing is wrong, and then nothing is written, or why that wasn't told.
abbrev pub ChecksTexts : ℕ → Parts → Option (List ℕ) → Option (List ℕ) → Result Bool CheckFault → Type 0
ChecksTexts devices texts old new (Ok true) = AreSound devices texts × Appends old new []
ChecksTexts devices texts old new (Ok false) = AreSound devices texts → ⊥
ChecksTexts devices texts old new (Err (fault.Input name)) = Appends old new []
ChecksTexts devices texts old new (Err fault.Output) = Unit {0}
ChecksTexts devices texts old new (Err fault.Memory) = Unit {0}
