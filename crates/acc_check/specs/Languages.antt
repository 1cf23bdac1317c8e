-- Texts of scripts and of schedules: what is wrong with them, and which of them go on.
use Rattle.std.specs.Prelude.{ℕ, Bool, true, false, List, [], ◌∷◌, ◌++◌, Option, Some, None, is_none, Result, Ok, Err, codes}
use Rattle.std.specs.List.{list_any}
use Rattle.acc_schedule.specs.Schedules.{schedule_of}
use Rattle.acc_script.specs.Scripts.{script_of}
use Rattle.acc_token.specs.declared.read_fault.ReadFault.{ReadFault}
use Rattle.acc_token.specs.declared.read_fault.ReadKind.{ReadKind}
use Rattle.acc_token.specs.declared.read_fault.ReadKind.TheVariants.{Text, End, Name, Limit, Form}
use Rattle.acc_check.specs.declared.language.Language.{Language}
use Rattle.acc_check.specs.declared.language.Language.TheVariants.{Script, Schedule}

abbrev pub fault_in : {A : Type 0} → Result A ReadFault → Option ReadFault
fault_in (Ok read) = None
fault_in (Err fault) = Some fault

unfoldable pub script_fault : List ℕ → Option ReadFault
script_fault text = fault_in (script_of text)

unfoldable pub schedule_fault : ℕ → ℕ → List ℕ → Option ReadFault
schedule_fault hosts devices text = fault_in (schedule_of hosts devices text)

-- what is wrong with a text, if it is none of its language
abbrev pub text_fault : Language → List ℕ → Option ReadFault
text_fault Script text = script_fault text
text_fault (Schedule hosts devices) text = schedule_fault hosts devices text

abbrev pub is_faultless : Language → List ℕ → Bool
is_faultless language text = is_none (text_fault language text)

abbrev pub needs_more : ReadKind → Bool
needs_more Text = false
needs_more End = true
needs_more Name = false
needs_more Limit = false
needs_more Form = false

abbrev pub is_begun : Option ReadFault → Bool
is_begun None = true
is_begun (Some fault) = needs_more fault.kind

-- what can be missing of a line of a schedule: nothing, one word or two, or all of it
abbrev pub tails : List (List ℕ)
tails = [] ∷ codes " 0" ∷ codes " 1" ∷ codes " sync" ∷ codes " 0 sync" ∷ codes " close" ∷ []

-- A schedule goes on where it is whole with a tail behind it.
unfoldable pub schedule_goes_on : ℕ → ℕ → List ℕ → Bool
schedule_goes_on hosts devices text = list_any (λ tail. is_faultless (Schedule hosts devices) (text ++ tail)) tails

-- A script goes on where it is whole, or ends where one needs more.
abbrev pub may_go_on : Language → List ℕ → Bool
may_go_on Script text = is_begun (script_fault text)
may_go_on (Schedule hosts devices) text = schedule_goes_on hosts devices text
