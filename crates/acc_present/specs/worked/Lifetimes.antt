-- The definitions computed on small histories of marks: what is present after them.
use Rattle.std.specs.Prelude.{◌≡◌, ℕ, [], ◌∷◌, List}
use Rattle.acc_base.specs.declared.range.Range.{Range}
use Rattle.acc_present.specs.Legality.{AllLegal}
use Rattle.acc_present.specs.declared.change.Change.TheVariants.{StructuredUp, StructuredDown, DynamicUp, DynamicDown, DynamicZero}
use Rattle.acc_present.specs.Marks.{Mark}
use Rattle.acc_present.specs.Presences.{Presence, presences}

-- cells of the first array
abbrev pub cells : ℕ → ℕ → Range
cells lo len = record { array = 0; lo = lo; len = len }

-- a region is entered, and left
abbrev pub region : Range → Mark
region r = record { change = StructuredUp; range = r }

abbrev pub end : Range → Mark
end r = record { change = StructuredDown; range = r }

-- `enter data`, `exit data`, and `exit data` with `finalize`
abbrev pub up : Range → Mark
up r = record { change = DynamicUp; range = r }

abbrev pub down : Range → Mark
down r = record { change = DynamicDown; range = r }

abbrev pub finalize : Range → Mark
finalize r = record { change = DynamicZero; range = r }

-- a presence with its block, its structured and its dynamic counter
abbrev pub held : Range → ℕ → ℕ → ℕ → Presence
held r block s d = record { range = r; block = block; s = s; d = d }

-- the latest mark stands first

-- ## The dynamic counter

abbrev pub EnteredTwiceLeftOnce : Type 0
EnteredTwiceLeftOnce =
    presences (down (cells 0 4) ∷ up (cells 0 4) ∷ up (cells 0 4) ∷ []) ≡ held (cells 0 4) 1 0 1 ∷ []

abbrev pub EnteredAgainHasANewBlock : Type 0
EnteredAgainHasANewBlock =
    presences (up (cells 0 4) ∷ down (cells 0 4) ∷ up (cells 0 4) ∷ []) ≡ held (cells 0 4) 2 0 1 ∷ []

abbrev pub SideBySide : Type 0
SideBySide =
    presences (up (cells 0 4) ∷ up (cells 4 4) ∷ []) ≡ held (cells 0 4) 2 0 1 ∷ held (cells 4 4) 1 0 1 ∷ []

abbrev pub PartIsPresent : Type 0
PartIsPresent =
    presences (up (cells 1 2) ∷ up (cells 0 4) ∷ []) ≡ held (cells 0 4) 1 0 2 ∷ []

abbrev pub PartEndsTheWhole : Type 0
PartEndsTheWhole =
    presences (down (cells 1 2) ∷ up (cells 0 4) ∷ []) ≡ []

abbrev pub ExitOfAnAbsentRange : Type 0
ExitOfAnAbsentRange =
    presences (up (cells 0 4) ∷ down (cells 0 4) ∷ []) ≡ held (cells 0 4) 1 0 1 ∷ []

abbrev pub FinalizeEndsAtOnce : Type 0
FinalizeEndsAtOnce =
    presences (finalize (cells 0 4) ∷ up (cells 0 4) ∷ up (cells 0 4) ∷ []) ≡ []

-- ## Both counters

abbrev pub RegionInsideARegion : Type 0
RegionInsideARegion =
    presences (region (cells 0 4) ∷ region (cells 0 4) ∷ []) ≡ held (cells 0 4) 1 2 0 ∷ []

abbrev pub RegionEndsWhatItEntered : Type 0
RegionEndsWhatItEntered =
    presences (end (cells 0 4) ∷ region (cells 0 4) ∷ []) ≡ []

abbrev pub PartOfARegionCountsOnTheWhole : Type 0
PartOfARegionCountsOnTheWhole =
    presences (up (cells 2 1) ∷ region (cells 1 2) ∷ region (cells 0 4) ∷ []) ≡ held (cells 0 4) 1 2 1 ∷ []

abbrev pub EnteredInsideARegion : Type 0
EnteredInsideARegion =
    presences (end (cells 0 4) ∷ up (cells 0 4) ∷ region (cells 0 4) ∷ []) ≡ held (cells 0 4) 1 0 1 ∷ []

abbrev pub EnteredOutsideARegion : Type 0
EnteredOutsideARegion =
    presences (end (cells 0 4) ∷ region (cells 0 4) ∷ up (cells 0 4) ∷ []) ≡ held (cells 0 4) 1 0 1 ∷ []

abbrev pub LeftInsideARegion : Type 0
LeftInsideARegion =
    presences (down (cells 0 4) ∷ region (cells 0 4) ∷ up (cells 0 4) ∷ []) ≡ held (cells 0 4) 1 1 0 ∷ []

abbrev pub ExitAtZeroInsideARegion : Type 0
ExitAtZeroInsideARegion =
    presences (up (cells 0 4) ∷ down (cells 0 4) ∷ region (cells 0 4) ∷ []) ≡ held (cells 0 4) 1 1 1 ∷ []

abbrev pub FinalizeInsideARegion : Type 0
FinalizeInsideARegion =
    presences (finalize (cells 1 2) ∷ up (cells 0 4) ∷ up (cells 0 4) ∷ region (cells 0 4) ∷ [])
    ≡ held (cells 0 4) 1 1 0 ∷ []

-- what is legal from a region's entry to its end, with each kind of mark
abbrev pub all_marks : List Mark
all_marks =
    end (cells 0 4) ∷ finalize (cells 1 2) ∷ down (cells 0 4) ∷ up (cells 0 4) ∷ up (cells 0 4) ∷ region (cells 0 4) ∷ []

abbrev pub AllMarksAreLegal : Type 0
AllMarksAreLegal = AllLegal all_marks

abbrev pub EndAfterFinalizeEndsTheLifetime : Type 0
EndAfterFinalizeEndsTheLifetime = presences all_marks ≡ []

abbrev pub RegionEnteredAgainHasANewBlock : Type 0
RegionEnteredAgainHasANewBlock =
    presences (region (cells 0 4) ∷ all_marks) ≡ held (cells 0 4) 2 1 0 ∷ []
