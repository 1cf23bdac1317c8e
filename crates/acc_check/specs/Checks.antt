-- What the check of a text writes.
use Rattle.std.specs.Prelude.{◌≡◌, ℕ, ◌<◌, ◌≤◌, Bool, true, false, List, length, map, take, Option, Result, Ok, Err}
use Rattle.std.specs.Io.KnownBytes.{Appends}
use Rattle.acc_check.specs.declared.check.CheckFault.{CheckFault}
use Rattle.acc_check.specs.declared.check.CheckFault.TheVariants.{Write, Memory}
use Rattle.acc_check.specs.declared.finding.Finding.{Finding}
use Rattle.acc_check.specs.declared.language.Language.{Language}
use Rattle.acc_check.specs.declared.language.Language.TheVariants.{Script, Schedule}
use Rattle.acc_check.specs.declared.words.TheConstants.{WORDS, SCHEDULE_WORDS}
use Rattle.acc_check.specs.Findings.{TellsFault}
use Rattle.acc_check.specs.Told.{finding_text, length_text}
use Rattle.acc_token.specs.declared.text.TheConstants.{MAX_TEXT}

abbrev pub words_of : Language → List (List ℕ)
words_of Script = map (λ w. w.now) WORDS.now
words_of (Schedule hosts devices) = map (λ w. w.now) SCHEDULE_WORDS.now

-- The lines tell a finding of the text.
pub record TellsFinding (language : Language) (name : List ℕ) (first_line : ℕ) (text : List ℕ) (lines : List ℕ) : Type 0 where
  pub finding : Finding
  pub tells : TellsFault language text (words_of language) finding
  pub told : lines ≡ finding_text name first_line text finding

-- What is told of a text: of one that is too long nothing but that, and else a finding of it.
pub record Tells (language : Language) (name : List ℕ) (first_line : ℕ) (text : List ℕ) (lines : List ℕ) : Type 0 where
  pub long : MAX_TEXT < length text → lines ≡ length_text language name first_line (take MAX_TEXT text)
  pub within : length text ≤ MAX_TEXT → TellsFinding language name first_line text lines

-- What a check writes: nothing of a text that is one of its language, or where memory is refused, and else the lines that tell
-- of it. Where the writer fails nothing is said.
abbrev pub Checks : Option (List ℕ) → Option (List ℕ) → Result Bool CheckFault → (List ℕ → Type 0) → Type 0
Checks old new (Ok true) IsTold = new ≡ old
Checks old new (Ok false) IsTold = (lines : List ℕ) × IsTold lines × Appends old new lines
Checks old new (Err Memory) IsTold = new ≡ old
Checks old new (Err Write) IsTold = Unit {0}
