-- What was told of the cases of a folder has gone out, or the output failed.
use Rattle.std.proofs.Common.{◌≡◌, ◌∙◌, List, Option, Some, None, IfSome, Result, Ok, Err, Bool, true, false, true≢false, ap, sym}
use Rattle.std.specs.Prelude.{◌≢◌, IfOk, IfErr}
use Rattle.acc_cases.specs.Folders.{File, Known}
use Rattle.acc_cases.specs.Runs.{TestedAll}
use Rattle.acc_cases.specs.declared.run.Tally.{Tally}
use Rattle.acc_cases.specs.declared.run.TestFault.{TestFault}
use Rattle.acc_cases.specs.declared.run.TestFault.TheVariants.{Folder as NotListed, Output, Memory}
use Rattle.accq.specs.Statuses.{FolderAnswers}
use Rattle.accq.specs.Words.{AskedTest}

abbrev is_output : TestFault → Bool
is_output Output = true
is_output NotListed = false
is_output Memory = false

other_fault : (f : TestFault) → f ≡ Output → f ≢ NotListed
other_fault f output listed = absurd (true≢false (ap is_output (sym output ∙ listed)))

pub tests_sent : (asked : AskedTest) (known files new : Option (List File)) (tally : Tally) (result : Result Tally TestFault)
    → IfSome known (λ fs. files ≡ Some fs) → Known files (λ fs. TestedAll fs asked.options asked.bless tally new)
    → IfOk result (λ t. t ≡ tally) → IfErr result (λ f. f ≡ Output)
    → IfSome known (λ fs. (after : Option (List File)) × FolderAnswers asked fs after result)
tests_sent asked None files new tally result are tested same fault = tt
tests_sent asked (Some fs) files new tally (Ok t) are tested same fault = (new, rw same (tested fs are))
tests_sent asked (Some fs) files new tally (Err f) are tested same fault = (new, other_fault f fault)
