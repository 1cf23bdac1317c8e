-- The first fault of a directive, computed: which item it is of, what comes before the items, and where the limits are.
use Rattle.std.specs.Prelude.{◌≡◌, ℕ, ◌-◌, [], ◌∷◌, replicate, Some, None}
use Rattle.acc_base.specs.declared.fault.Fault.TheVariants.{BadDevice, BadRange, TooMany, PartlyPresent, DeviceFull}
use Rattle.acc_place.specs.declared.directive.TheConstants.{MAX_DIRECTIVES}
use Rattle.acc_place.specs.Accepting.{refusal}
use Rattle.acc_place.specs.worked.Directives.{small, cells, first_four, copyin, copyout, fault_after}
use Rattle.acc_place.specs.Histories.{at_first}
use Rattle.acc_place.specs.Standings.{Standing}

-- An earlier item's fault comes before a later one's, whichever they are.
abbrev pub EarlierItemFirst : Type 0
EarlierItemFirst =
    (fault_after (first_four ∷ []) (copyin (cells 2 4 ∷ cells 8 1 ∷ [])) ≡ Some PartlyPresent)
    × (fault_after (first_four ∷ []) (copyin (cells 4 3 ∷ cells 8 1 ∷ [])) ≡ Some DeviceFull)
    × (fault_after (first_four ∷ []) (copyin (cells 8 1 ∷ cells 2 4 ∷ [])) ≡ Some BadRange)

-- An item is judged after the marks of those before it.
abbrev pub ItemBeforeCounts : Type 0
ItemBeforeCounts =
    (fault_after [] (copyin (cells 0 4 ∷ cells 2 4 ∷ [])) ≡ Some PartlyPresent)
    × (fault_after [] (copyin (cells 0 4 ∷ cells 1 2 ∷ [])) ≡ None)
    × (fault_after (first_four ∷ []) (copyout (cells 0 4 ∷ cells 2 4 ∷ [])) ≡ None)

-- The number of items comes before each item, and the device before both.
abbrev pub LimitsFirst : Type 0
LimitsFirst =
    (fault_after [] (copyin (replicate 16 (cells 0 1))) ≡ None)
    × (fault_after [] (copyin (replicate 17 (cells 8 1))) ≡ Some TooMany)
    × (refusal small (at_first small) 0 (record (copyin (replicate 17 (cells 8 1))) { device = 1 }) ≡ Some BadDevice)

-- so many directives were accepted, and nothing is present
abbrev pub accepted_before : ℕ → Standing
accepted_before n = record (at_first small) { accepted = n }

abbrev pub LastDirective : Type 0
LastDirective =
    (refusal small (accepted_before (MAX_DIRECTIVES - 1)) 0 first_four ≡ None)
    × (refusal small (accepted_before MAX_DIRECTIVES) 0 first_four ≡ Some TooMany)

-- A range without cells, one past its array, one past every number of 32 bits, and one of an array that isn't there.
abbrev pub RangesOutside : Type 0
RangesOutside =
    (fault_after [] (copyin (cells 3 0 ∷ [])) ≡ Some BadRange)
    × (fault_after [] (copyin (cells 7 2 ∷ [])) ≡ Some BadRange)
    × (fault_after [] (copyin (cells 4294967295 4294967295 ∷ [])) ≡ Some BadRange)
    × (fault_after [] (copyin (record { array = 1; lo = 0; len = 1 } ∷ [])) ≡ Some BadRange)
    × (fault_after [] (copyout (cells 7 2 ∷ [])) ≡ Some BadRange)

-- Six cells fit and seven don't, in one item or several; what is present needs no more, and what has left gives its
-- cells back.
abbrev pub CapacityReached : Type 0
CapacityReached =
    (fault_after (first_four ∷ []) (copyin (cells 4 2 ∷ [])) ≡ None)
    × (fault_after (first_four ∷ []) (copyin (cells 4 3 ∷ [])) ≡ Some DeviceFull)
    × (fault_after (first_four ∷ []) (copyin (cells 4 1 ∷ cells 5 2 ∷ [])) ≡ Some DeviceFull)
    × (fault_after (copyin (cells 4 2 ∷ []) ∷ first_four ∷ []) (copyin (cells 1 2 ∷ [])) ≡ None)
    × (fault_after (copyout (cells 0 4 ∷ []) ∷ first_four ∷ []) (copyin (cells 2 6 ∷ [])) ≡ None)
