-- Legal marks: each met its condition when it was made (OpenACC API 3.0, 2.6.7, Reference Counters).
use Rattle.std.specs.Prelude.{◌≡◌, ◌+◌, ◌<◌, ⊤, false, List, [], ◌∷◌, All, Option, IsSomeAnd}
use Rattle.acc_base.specs.declared.range.Range.{Range}
use Rattle.acc_present.specs.declared.change.Change.{Change}
use Rattle.acc_present.specs.declared.change.Change.TheVariants.{StructuredUp, StructuredDown, DynamicUp, DynamicDown, DynamicZero}
use Rattle.acc_present.specs.Marks.{Mark}
use Rattle.acc_present.specs.Lifetimes.{live_lifetimes, times_entered, times_left, structured_of}
use Rattle.acc_present.specs.Presences.{Presence, presences, holder, is_partly_present}

-- what a region leaves, a region has entered: it is present, and its structured counter is positive
abbrev pub IsEntered : Option Presence → Type 0
IsEntered o = IsSomeAnd o (λ p. 0 < p.s)

-- The condition of a change of a range's counter: no entry to a range that is partly present, and no exit of a region
-- from a range that none has entered. A dynamic exit takes no action where it finds nothing.
abbrev pub MeetsCondition : Change → Range → List Presence → Type 0
MeetsCondition StructuredUp r ps = is_partly_present ps r ≡ false
MeetsCondition StructuredDown r ps = IsEntered (holder ps r)
MeetsCondition DynamicUp r ps = is_partly_present ps r ≡ false
MeetsCondition DynamicDown r ps = ⊤
MeetsCondition DynamicZero r ps = ⊤

abbrev pub IsLegal : Mark → List Presence → Type 0
IsLegal m ps = (0 < m.range.len) × MeetsCondition m.change m.range ps

abbrev pub AllLegal : List Mark → Type 0
AllLegal [] = ⊤
AllLegal (m ∷ before) = IsLegal m (presences before) × AllLegal before

-- After legal marks no live lifetime was left by more regions than entered it: its structured counter and the exits
-- together are the entries.
abbrev pub StructuredIsTheDifference : Type 0
StructuredIsTheDifference = (marks : List Mark) → AllLegal marks
    → All (λ l. structured_of marks l + times_left marks l ≡ times_entered marks l) (live_lifetimes marks)
