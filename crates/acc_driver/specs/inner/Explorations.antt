-- What is answered to a program and the text of a schedule behind which it is explored. Only private contracts and proofs cite it.
use Rattle.std.specs.Prelude.{◌≡◌, ◌⊎◌, ℕ, List, [], Option, Result, Ok, Err}
use Rattle.std.specs.Io.KnownBytes.{Appends}
use Rattle.acc_explore.specs.Endings.{Setting, TellsAll}
use Rattle.acc_explore.specs.Prefixes.{TellsPrefixes}
use Rattle.acc_host.specs.declared.event.Event.{Event}
use Rattle.acc_report.specs.Puts.{Sink}
use Rattle.acc_script.specs.Scripts.{ScriptView}
use Rattle.acc_driver.specs.declared.explorations.Aim.{Aim}
use Rattle.acc_driver.specs.declared.explorations.Aim.TheVariants as aim
use Rattle.acc_driver.specs.declared.explorations.Explored.{Explored}
use Rattle.acc_driver.specs.declared.explorations.Explored.TheVariants as explored
use Rattle.acc_driver.specs.declared.explorations.Exploring.{Exploring}
use Rattle.acc_driver.specs.declared.fault.DriverFault.{DriverFault}
use Rattle.acc_driver.specs.declared.fault.DriverFault.TheVariants as fault
use Rattle.acc_driver.specs.declared.options.Options.{Options}
use Rattle.acc_driver.specs.Explorations.{ExploresProgram}
use Rattle.acc_driver.specs.Replays.{events_in}

-- What an exploration is to tell of a setting was told, and it is counted.
abbrev pub TellsAllOf : Aim → Setting → List ℕ → ℕ → Sink → Sink → Explored → Type 0
TellsAllOf (aim.Reports form) x schedule most old new (explored.Reports counts) = TellsAll x form schedule most old new counts
TellsAllOf (aim.Prefixes depth) x schedule most old new (explored.Prefixes count) = TellsPrefixes x schedule depth most old new count
TellsAllOf (aim.Reports form) x schedule most old new (explored.Prefixes count) = ⊥
TellsAllOf (aim.Prefixes depth) x schedule most old new (explored.Reports counts) = ⊥

-- The schedule says the first events, and this is the answer to them.
abbrev pub ExploresFirst : Options → Exploring → List ℕ → ScriptView → Option (List ℕ) → Option (List ℕ) → Result Explored DriverFault → Type 0
ExploresFirst options exploring schedule program old new result =
    (first : List Event) × (events_in options program schedule ≡ Ok first) × ExploresProgram options exploring schedule program first old new result

-- What is answered to a program and the text of a schedule.
abbrev pub ExploresSchedule : Options → Exploring → List ℕ → ScriptView → Option (List ℕ) → Option (List ℕ) → Result Explored DriverFault → Type 0
ExploresSchedule options exploring schedule program old new (Ok told) = ExploresFirst options exploring schedule program old new (Ok told)
ExploresSchedule options exploring schedule program old new (Err fault.Output) = ExploresFirst options exploring schedule program old new (Err fault.Output)
ExploresSchedule options exploring schedule program old new (Err (fault.Runtime f)) = ExploresFirst options exploring schedule program old new (Err (fault.Runtime f))
ExploresSchedule options exploring schedule program old new (Err fault.Memory) =
    Appends old new [] ⊎ ExploresFirst options exploring schedule program old new (Err fault.Memory)
ExploresSchedule options exploring schedule program old new (Err (fault.Schedule f)) = (events_in options program schedule ≡ Err f) × Appends old new []
ExploresSchedule options exploring schedule program old new (Err (fault.Script f)) = ⊥
ExploresSchedule options exploring schedule program old new (Err fault.Input) = ⊥
