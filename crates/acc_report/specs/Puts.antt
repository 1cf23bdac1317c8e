-- What a writer holds after bytes were put: all of them, or, where it failed, a beginning of them.
use Rattle.std.specs.Prelude.{◌≡◌, ℕ, Bool, true, false, List, [], take, Option, Result, Ok, Err}
use Rattle.std.specs.Io.KnownBytes.{Appends}
use Rattle.acc_report.specs.declared.bytes.ReportFault.{ReportFault}
use Rattle.acc_report.specs.declared.bytes.ReportFault.TheVariants as fault

-- What the writer holds, where that is known, grew by a beginning of the text.
abbrev pub AppendsFront : Option (List ℕ) → Option (List ℕ) → List ℕ → Type 0
AppendsFront old new text = (n : ℕ) × Appends old new (take n text)

-- The whole text was written, or the writer failed behind a beginning of it.
abbrev pub Writes : {A E : Type 0} → Option (List ℕ) → Option (List ℕ) → Result A E → List ℕ → Type 0
Writes old new (Ok x) text = Appends old new text
Writes old new (Err fault) text = AppendsFront old new text

-- A report was written, or a beginning of it where the writer failed, or nothing where memory was refused.
abbrev pub ReportAnswers : {A : Type 0} → Option (List ℕ) → Option (List ℕ) → Result A ReportFault → List ℕ → Type 0
ReportAnswers old new (Ok x) text = Appends old new text
ReportAnswers old new (Err fault.Write) text = AppendsFront old new text
ReportAnswers old new (Err fault.Memory) text = Appends old new []

-- what a writer holds, where that is known, and whether it has failed
pub record Sink : Type 0 where
  pub held : Option (List ℕ)
  pub failed : Bool

abbrev pub sink : Option (List ℕ) → Bool → Sink
sink held failed = record { held = held; failed = failed }

-- Behind a failure nothing is written.
abbrev pub PutsBy : Option (List ℕ) → Bool → Option (List ℕ) → Bool → List ℕ → Type 0
PutsBy old true new failed text = (failed ≡ true) × Appends old new []
PutsBy old false new true text = AppendsFront old new text
PutsBy old false new false text = Appends old new text

-- The text was put: written, or the writer fails now, if it had not failed before.
pub record Puts (old new : Sink) (text : List ℕ) : Type 0 where
  pub bytes : PutsBy old.held old.failed new.held new.failed text
