-- What is told of the cases of a folder.
use Rattle.std.specs.Prelude.{◌≡◌, ◌≢◌, ◌⊎◌, ◌++◌, ◌+◌, ℕ, Bool, true, false, not, List, [], ◌∷◌, map, count_by, Option, Some, None}
use Rattle.acc_driver.specs.declared.options.Options.{Options}
use Rattle.acc_cases.specs.declared.fault.CaseFault.{CaseFault}
use Rattle.acc_cases.specs.declared.fault.CaseFault.TheVariants as fault
use Rattle.acc_cases.specs.declared.fault.Kind.TheVariants.{Report}
use Rattle.acc_cases.specs.declared.outcome.Outcome.{Outcome}
use Rattle.acc_cases.specs.declared.outcome.Outcome.TheVariants.{Passed, Changed, Differs, Faulty}
use Rattle.acc_cases.specs.declared.run.Tally.{Tally}
use Rattle.acc_cases.specs.Cases.{CaseComes, IsCaseFault, ending_of, held}
use Rattle.acc_cases.specs.Folders.{File, Known, with_file}
use Rattle.acc_cases.specs.Names.{AreCases}

-- What comes is what its report says.
pub record Passes (fs : List File) (name : List ℕ) (common : Options) : Type 0 where
  pub came : List ℕ
  pub comes : CaseComes fs name common came
  pub wanted : held fs name Report ≡ Some came

-- What comes is something else than its report says, if it has one, and was put in its place.
pub record Changes (fs : List File) (name : List ℕ) (common : Options) (new : Option (List File)) : Type 0 where
  pub came : List ℕ
  pub comes : CaseComes fs name common came
  pub other : held fs name Report ≢ Some came
  pub written : new ≡ Some (with_file fs (name ++ ending_of Report) came)

-- What comes is something else than its report says.
pub record IsDifferent (fs : List File) (name : List ℕ) (common : Options) (report came : List ℕ) : Type 0 where
  pub comes : CaseComes fs name common came
  pub wanted : held fs name Report ≡ Some report
  pub other : report ≢ came

-- Why the case of a name is neither: nothing comes of it, or it has no report, and none was to be written, or none could be.
abbrev pub CaseFails : List File → List ℕ → Options → Bool → Option (List File) → CaseFault → Type 0
CaseFails fs name common bless new fault.Memory = (bless ≡ true) ⊎ (new ≡ Some fs)
CaseFails fs name common bless new fault.Unwritten = bless ≡ true
CaseFails fs name common bless new (fault.Unread Report) = (bless ≡ false) × (held fs name Report ≡ None) × (new ≡ Some fs)
CaseFails fs name common bless new (fault.Unread kind) = IsCaseFault fs name common (fault.Unread kind) × (new ≡ Some fs)
CaseFails fs name common bless new fault.TwoSchedules = IsCaseFault fs name common fault.TwoSchedules × (new ≡ Some fs)
CaseFails fs name common bless new (fault.Options word) = IsCaseFault fs name common (fault.Options word) × (new ≡ Some fs)

-- What is told of the case of a name, and what the folder then holds.
abbrev pub Tests : List File → List ℕ → Options → Bool → Option (List File) → Outcome → Type 0
Tests fs name common bless new Passed = Passes fs name common × (new ≡ Some fs)
Tests fs name common bless new Changed = (bless ≡ true) × Changes fs name common new
Tests fs name common bless new (Differs wanted came) = (bless ≡ false) × IsDifferent fs name common wanted.items came.items × (new ≡ Some fs)
Tests fs name common bless new (Faulty f) = CaseFails fs name common bless new f

-- So it is of cases, one behind the other.
abbrev pub AllTested : Option (List File) → Options → Bool → List (List ℕ) → List Outcome → Option (List File) → Type 0
AllTested old common bless [] [] new = new ≡ old
AllTested old common bless (name ∷ names) (outcome ∷ outcomes) new =
    (next : Option (List File)) × Known old (λ fs. Tests fs name common bless next outcome) × AllTested next common bless names outcomes new
AllTested old common bless [] (outcome ∷ outcomes) new = ⊥
AllTested old common bless (name ∷ names) [] new = ⊥

-- what passes, a report that was changed among it
abbrev pub passes : Outcome → Bool
passes Passed = true
passes Changed = true
passes (Differs wanted came) = false
passes (Faulty f) = false

abbrev pub tally_of : List Outcome → Tally
tally_of outcomes = record { passed = count_by passes outcomes; failed = count_by (λ o. not (passes o)) outcomes }

-- So it is of all cases of a folder, and these are their counts.
pub record TestedAll (fs : List File) (common : Options) (bless : Bool) (tally : Tally) (new : Option (List File)) : Type 0 where
  pub names : List (List ℕ)
  pub outcomes : List Outcome
  pub cases : AreCases (map (λ f. f.name) fs) names
  pub tested : AllTested (Some fs) common bless names outcomes new
  pub counted : tally ≡ tally_of outcomes

-- Why a report isn't written.
abbrev pub IsWriteFault : CaseFault → Type 0
IsWriteFault fault.Memory = Unit {0}
IsWriteFault fault.Unwritten = Unit {0}
IsWriteFault fault.TwoSchedules = ⊥
IsWriteFault (fault.Unread kind) = ⊥
IsWriteFault (fault.Options word) = ⊥

-- the counts with one case more
abbrev pub with_case : Tally → Bool → Tally
with_case tally true = record tally { passed = tally.passed + 1 }
with_case tally false = record tally { failed = tally.failed + 1 }
