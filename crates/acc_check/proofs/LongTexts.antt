-- A text that is too long is none of its language.
use Rattle.std.proofs.Common.{◌≡◌, ◌∙◌, ◌<◌, ℕ, ◌+◌, true, List, [], length, take, Result, ap, sym, true≢false, arith}
use Rattle.std.specs.Prelude.{IsNone, is_some, nat_lt, if◌then◌else◌}
use Rattle.std.proofs.lemmas.Bool.Decides.{nat_tests}
use Rattle.acc_schedule.specs.Schedules.{events_from, lines, schedule_of}
use Rattle.acc_script.specs.Scripts.{script_at, script_of}
use Rattle.acc_token.specs.Faults.{fails}
use Rattle.acc_token.specs.Texts.{line_feeds, within}
use Rattle.acc_token.specs.declared.read_fault.ReadFault.{ReadFault}
use Rattle.acc_token.specs.declared.read_fault.ReadKind.TheVariants.{Limit}
use Rattle.acc_token.specs.declared.text.TheConstants.{MAX_TEXT}
use Rattle.acc_check.specs.declared.language.Language.{Language}
use Rattle.acc_check.specs.declared.language.Language.TheVariants.{Script, Schedule}
use Rattle.acc_check.specs.Languages.{fault_in, schedule_fault, script_fault, text_fault}

has_fault : {A : Type 0} (read : List ℕ → Result A ReadFault) (text : List ℕ) → MAX_TEXT < length text → is_some (fault_in (within MAX_TEXT read text)) ≡ true
has_fault read text long =
    let is : nat_lt MAX_TEXT (length text) ≡ true = grind (arith, nat_tests) in
    ap (λ t. is_some (fault_in (if t then fails (1 + line_feeds (take MAX_TEXT text)) Limit else read text))) is

pub long_is_faulty : (language : Language) (text : List ℕ) → MAX_TEXT < length text → IsNone (text_fault language text) → ⊥
unfolding script_fault schedule_fault script_of schedule_of
long_is_faulty Script text long none =
    true≢false (sym (has_fault (λ (text : List ℕ). script_at (record { line = 1; bytes = text })) text long) ∙ none)
long_is_faulty (Schedule hosts devices) text long none =
    true≢false (sym (has_fault (λ (text : List ℕ). events_from hosts devices 1 [] (lines text)) text long) ∙ none)
