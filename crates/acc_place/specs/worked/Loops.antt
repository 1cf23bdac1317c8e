-- What parallel loops mean, computed on short histories over two arrays of four cells.
use Rattle.std.specs.Prelude.{◌≡◌, ℕ, ◌+◌, ℤ, pos, negsuc, zero, suc, false, List, [], ◌∷◌, map, replicate, Option, Some, None}
use Rattle.acc_base.specs.declared.fault.Fault.{Fault}
use Rattle.acc_base.specs.declared.fault.Fault.TheVariants.{BadRange, TooMany, PartlyPresent, NotPresent, DeviceFull, OutsideRange}
use Rattle.acc_base.specs.declared.range.Range.{Range}
use Rattle.acc_base.specs.Configurations.{Configuration, configuration}
use Rattle.acc_batch.specs.declared.label.OpLabel.{OpLabel}
use Rattle.acc_batch.specs.declared.label.OpLabel.TheVariants.{Make, CopyIn, CopyOut, Release, Run}
use Rattle.acc_kernel.specs.declared.operator.Operator.TheVariants.{Plus}
use Rattle.acc_kernel.specs.Kernels.{Loop, loop}
use Rattle.acc_kernel.specs.Trees.{Tree, Number, Read, Binary}
use Rattle.acc_present.specs.Presences.{Presence, presences}
use Rattle.acc_place.specs.declared.directive.Clause.TheVariants as clause
use Rattle.acc_place.specs.Directives.{Directive}
use Rattle.acc_place.specs.declared.directive.DataItem.{DataItem}
use Rattle.acc_place.specs.declared.directive.Kind.TheVariants as kind
use Rattle.acc_place.specs.declared.directive.PlaceEntry.{PlaceEntry}
use Rattle.acc_place.specs.declared.directive.PlaceEntry.TheVariants.{Accepted}
use Rattle.acc_place.specs.Accepting.{refusal}
use Rattle.acc_place.specs.Batches.{batch_of}
use Rattle.acc_place.specs.worked.Directives.{directive, item, region_end, presence}
use Rattle.acc_place.specs.Histories.{standing}
use Rattle.acc_place.specs.Standings.{Standing, walk_of}

-- two devices of eight cells, two hosts, and two arrays of four cells
abbrev pub two_arrays : Configuration
two_arrays = configuration 2 2 (replicate 2 (replicate 4 (pos 0))) 8 64

-- cells of the first array, x, and of the second, y
abbrev pub x_cells : ℕ → ℕ → Range
x_cells lo len = record { array = 0; lo = lo; len = len }

abbrev pub y_cells : ℕ → ℕ → Range
y_cells lo len = record { array = 1; lo = lo; len = len }

abbrev pub all_x : Range
all_x = x_cells 0 4

abbrev pub all_y : Range
all_y = y_cells 0 4

-- `x[i] = x[i] + 1` from 0 on
abbrev pub counts_up : ℕ → Loop
counts_up hi = loop (pos 0) (pos hi) (record { array = 0; value = Binary Plus (Read 0 (pos 0)) (Number (pos 1)) } ∷ [])

-- `y[i] = x[i + offset]` from 0 on
abbrev pub shifts : ℤ → ℕ → Loop
shifts offset hi = loop (pos 0) (pos hi) (record { array = 1; value = Read 0 offset } ∷ [])

abbrev pub run : Loop → List DataItem → Directive
run k items = directive (kind.Loop k) items

abbrev pub inside : List DataItem → Directive
inside items = directive kind.Data items

abbrev pub on_second : Directive → Directive
on_second d = record d { device = 1 }

abbrev pub after_all : List PlaceEntry → Standing
after_all history = standing two_arrays history (map (λ e. 0) history)

abbrev pub placed : List PlaceEntry → Directive → List OpLabel
placed history d = batch_of (after_all history) (walk_of (after_all history) 0 d)

abbrev pub refused : List PlaceEntry → Directive → Option Fault
refused history d = refusal two_arrays (after_all history) 0 d

abbrev pub present : List PlaceEntry → List Presence
present history = presences ((after_all history).marks 0)

abbrev pub of_host : ℕ → List Directive → List PlaceEntry
of_host host ds = map (λ d. Accepted host d) ds

-- A loop over what is present runs, and that is all; its range may be a part.
abbrev pub RunsOnPresent : Type 0
RunsOnPresent =
    (placed (of_host 0 (directive kind.EnterData (item clause.Copyin all_x ∷ []) ∷ [])) (run (counts_up 4) (item clause.Present all_x ∷ []))
    ≡ Run (counts_up 4) ((1, all_x) ∷ []) ∷ [])
    × (placed (of_host 0 (directive kind.EnterData (item clause.Copyin all_x ∷ []) ∷ [])) (run (counts_up 2) (item clause.Present (x_cells 0 2) ∷ []))
    ≡ Run (counts_up 2) ((1, x_cells 0 2) ∷ []) ∷ [])

-- Implicit items are as in `copy`, by the first reference: the assigned array is first. After the loop nothing is present.
abbrev pub CopiesImplicitly : Type 0
CopiesImplicitly =
    (placed [] (run (counts_up 1) []) ≡ Make all_x 1 ∷ CopyIn all_x 1 ∷ Run (counts_up 1) ((1, all_x) ∷ []) ∷ CopyOut all_x 1 ∷ Release 1 ∷ [])
    × (placed [] (run (shifts (pos 0) 4) [])
    ≡ Make all_y 1 ∷ Make all_x 2 ∷ CopyIn all_y 1 ∷ CopyIn all_x 2 ∷ Run (shifts (pos 0) 4) ((1, all_y) ∷ (2, all_x) ∷ [])
    ∷ CopyOut all_y 1 ∷ CopyOut all_x 2 ∷ Release 1 ∷ Release 2 ∷ [])
    × (present (of_host 0 (run (shifts (pos 0) 4) [] ∷ [])) ≡ [])

-- With clauses: copied in and out as they say; and before the implicit ones.
abbrev pub TakesClauses : Type 0
TakesClauses =
    (placed [] (run (shifts (pos 1) 3) (item clause.Copyin all_x ∷ item clause.Copyout all_y ∷ []))
    ≡ Make all_x 1 ∷ Make all_y 2 ∷ CopyIn all_x 1 ∷ Run (shifts (pos 1) 3) ((2, all_y) ∷ (1, all_x) ∷ [])
    ∷ CopyOut all_y 2 ∷ Release 1 ∷ Release 2 ∷ [])
    × (placed [] (run (shifts (pos 0) 4) (item clause.Copyin all_x ∷ []))
    ≡ Make all_x 1 ∷ Make all_y 2 ∷ CopyIn all_x 1 ∷ CopyIn all_y 2 ∷ Run (shifts (pos 0) 4) ((2, all_y) ∷ (1, all_x) ∷ [])
    ∷ CopyOut all_y 2 ∷ Release 1 ∷ Release 2 ∷ [])

-- An array that a data construct names is used in that range; the innermost one counts, and in it the first item.
abbrev pub UsesConstructs : Type 0
UsesConstructs =
    (placed (of_host 0 (inside (item clause.Copy (x_cells 1 2) ∷ []) ∷ [])) (run (loop (pos 1) (pos 3) (counts_up 4).statements) [])
    ≡ Run (loop (pos 1) (pos 3) (counts_up 4).statements) ((1, x_cells 1 2) ∷ []) ∷ [])
    × (placed (of_host 0 (inside (item clause.Create (x_cells 0 2) ∷ item clause.Create all_x ∷ []) ∷ inside (item clause.Create all_x ∷ []) ∷ [])) (run (counts_up 2) [])
    ≡ Run (counts_up 2) ((1, x_cells 0 2) ∷ []) ∷ [])
    × (present (of_host 0 (run (counts_up 4) [] ∷ inside (item clause.Create all_x ∷ []) ∷ [])) ≡ presence all_x 1 1 0 ∷ [])

-- A construct of another host, or on another device, isn't looked at, nor one that was left.
abbrev pub UsesOwnConstructs : Type 0
UsesOwnConstructs =
    (placed (of_host 1 (inside (item clause.Create all_x ∷ []) ∷ [])) (run (counts_up 1) []) ≡ Run (counts_up 1) ((1, all_x) ∷ []) ∷ [])
    × (refused (of_host 1 (inside (item clause.Create (x_cells 0 2) ∷ []) ∷ [])) (run (counts_up 1) []) ≡ Some PartlyPresent)
    × (placed (of_host 0 (inside (item clause.Create (x_cells 0 2) ∷ []) ∷ [])) (on_second (run (counts_up 1) []))
    ≡ Make all_x 1 ∷ CopyIn all_x 1 ∷ Run (counts_up 1) ((1, all_x) ∷ []) ∷ CopyOut all_x 1 ∷ Release 1 ∷ [])
    × (placed (of_host 0 (region_end ∷ inside (item clause.Create (x_cells 0 2) ∷ []) ∷ [])) (run (counts_up 1) [])
    ≡ Make all_x 2 ∷ CopyIn all_x 2 ∷ Run (counts_up 1) ((2, all_x) ∷ []) ∷ CopyOut all_x 2 ∷ Release 2 ∷ [])

-- A cell past the range that a loop uses is refused, at either end, and whatever else is present; the first item's range
-- counts.
abbrev pub StaysInRange : Type 0
StaysInRange =
    (map (λ hi. refused [] (run (shifts (pos 1) hi) [])) (3 ∷ 4 ∷ []) ≡ None ∷ Some OutsideRange ∷ [])
    × (map (λ lo. refused [] (run (loop lo (pos 4) (shifts (negsuc 0) 4).statements) [])) (pos 1 ∷ pos 0 ∷ negsuc 0 ∷ []) ≡ None ∷ Some OutsideRange ∷ Some OutsideRange ∷ [])
    × (refused (of_host 0 (inside (item clause.Create all_x ∷ []) ∷ [])) (run (counts_up 3) (item clause.Present (x_cells 0 2) ∷ [])) ≡ Some OutsideRange)
    × (refused (of_host 0 (inside (item clause.Create all_x ∷ []) ∷ [])) (run (counts_up 3) (item clause.Present (x_cells 0 2) ∷ item clause.Present all_x ∷ [])) ≡ Some OutsideRange)
    × (refused (of_host 0 (inside (item clause.Create all_x ∷ []) ∷ [])) (run (counts_up 3) (item clause.Present all_x ∷ item clause.Present (x_cells 0 2) ∷ [])) ≡ None)

-- A loop without a turn reaches nothing, and still places its batch.
abbrev pub TakesNoTurn : Type 0
TakesNoTurn =
    placed [] (run (loop (pos 9) (pos 9) (counts_up 1).statements) [])
    ≡ Make all_x 1 ∷ CopyIn all_x 1 ∷ Run (loop (pos 9) (pos 9) (counts_up 1).statements) ((1, all_x) ∷ []) ∷ CopyOut all_x 1 ∷ Release 1 ∷ []

-- A loop that reads so many arrays from the third on, and assigns the first.
abbrev pub sum_of : ℕ → ℕ → Tree
sum_of first zero = Number (pos 0)
sum_of first (suc n) = Binary Plus (Read first (pos 0)) (sum_of (first + 1) n)

abbrev pub reads_arrays : ℕ → Loop
reads_arrays n = loop (pos 0) (pos 0) (record { array = 0; value = sum_of 2 n } ∷ [])

-- The limit counts implicit items too; an array that isn't there has no cell.
abbrev pub LimitsItems : Type 0
LimitsItems =
    (refused [] (run (reads_arrays 16) []) ≡ Some TooMany)
    × (refused [] (run (reads_arrays 15) []) ≡ Some BadRange)
    × (refused [] (run (counts_up 1) (replicate 16 (item clause.Create all_x))) ≡ None)
    × (refused [] (run (shifts (pos 0) 4) (replicate 16 (item clause.Create all_x))) ≡ Some TooMany)
    × (refused [] (run (shifts (pos 0) 4) (replicate 15 (item clause.Create all_x))) ≡ None)

-- The items are judged before the cells that the loop reaches: absent, partly present, and a device that is full with all
-- of the loop's items together.
abbrev pub JudgesItems : Type 0
JudgesItems =
    (refused [] (run (counts_up 9) (item clause.Present all_x ∷ [])) ≡ Some NotPresent)
    × (refused (of_host 0 (directive (kind.ExitData false) (item clause.Copyout (x_cells 2 2) ∷ []) ∷ directive kind.EnterData (item clause.Create (x_cells 0 2) ∷ []) ∷ [])) (run (counts_up 2) []) ≡ Some PartlyPresent)
    × (refusal (record two_arrays { capacity = 7 }) (after_all []) 0 (run (shifts (pos 0) 4) []) ≡ Some DeviceFull)
    × (refused [] (run (shifts (pos 0) 9) (item clause.Create (y_cells 0 0) ∷ [])) ≡ Some BadRange)
