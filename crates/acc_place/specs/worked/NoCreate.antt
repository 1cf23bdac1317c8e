-- What the clause `no_create` means, computed on short histories.
use Rattle.std.specs.Prelude.{◌≡◌, [], ◌∷◌, map, Some, None}
use Rattle.acc_base.specs.declared.fault.Fault.TheVariants.{BadRange, PartlyPresent}
use Rattle.acc_batch.specs.declared.label.OpLabel.TheVariants.{Make, CopyIn, CopyOut, Release, Run}
use Rattle.acc_place.specs.declared.directive.Clause.TheVariants as clause
use Rattle.acc_place.specs.declared.directive.Kind.TheVariants as kind
use Rattle.acc_place.specs.Directives.{Directive}
use Rattle.acc_place.specs.worked.Directives.{cells, four, directive, item, region, region_end, enter, exit, fault_after, batch_after, present_after, presence}
use Rattle.acc_place.specs.worked.Loops.{all_x, x_cells, counts_up, inside, run, of_host, placed, refused}

-- where its range is absent it takes no action, whether the device has room or not; it is refused where its range is partly
-- present, or isn't in its array
abbrev pub AbsentWithoutAction : Type 0
AbsentWithoutAction =
    (batch_after [] (region clause.NoCreate four) ≡ [])
    × (present_after (region clause.NoCreate four ∷ []) ≡ [])
    × (fault_after [] (region clause.NoCreate (cells 0 8)) ≡ None)
    × (fault_after (enter clause.Create (cells 2 4) ∷ []) (region clause.NoCreate four) ≡ Some PartlyPresent)
    × (fault_after [] (region clause.NoCreate (cells 7 2)) ≡ Some BadRange)

-- where it is present it is counted, and a last exit releases it
abbrev pub PresentIsCounted : Type 0
PresentIsCounted =
    (present_after (region clause.NoCreate (cells 1 2) ∷ enter clause.Create four ∷ []) ≡ presence four 1 1 1 ∷ [])
    × (batch_after (enter clause.Create four ∷ []) (region clause.NoCreate four) ≡ [])
    × (present_after (region_end ∷ region clause.NoCreate four ∷ enter clause.Create four ∷ []) ≡ presence four 1 0 1 ∷ [])
    × (batch_after (exit clause.Delete four ∷ region clause.NoCreate four ∷ enter clause.Create four ∷ []) region_end ≡ Release 1 ∷ [])

-- the end takes back what the entry counted, and nothing of a range that came in between
abbrev pub TakesBackItsOwn : Type 0
TakesBackItsOwn =
    (present_after (region_end ∷ enter clause.Create four ∷ region clause.NoCreate four ∷ []) ≡ presence four 1 0 1 ∷ [])
    × (batch_after (enter clause.Create four ∷ region clause.NoCreate four ∷ []) region_end ≡ [])
    × (present_after (region_end ∷ region clause.Create four ∷ region clause.NoCreate four ∷ []) ≡ [])
    × (fault_after (region_end ∷ region clause.Create four ∷ region clause.NoCreate four ∷ []) region_end ≡ None)

-- it finds what the items before it have opened, and no more
abbrev pub both_orders : Directive → Directive → Type 0
both_orders first second =
    (present_after (first ∷ []) ≡ presence four 1 1 0 ∷ [])
    × (present_after (second ∷ []) ≡ presence four 1 2 0 ∷ [])
    × (map (λ d. batch_after (d ∷ []) region_end) (first ∷ second ∷ []) ≡ (Release 1 ∷ []) ∷ (Release 1 ∷ []) ∷ [])
    × (map (λ d. present_after (region_end ∷ d ∷ [])) (first ∷ second ∷ []) ≡ [] ∷ [] ∷ [])

abbrev pub InItsTurn : Type 0
InItsTurn =
    both_orders (directive kind.Data (item clause.NoCreate four ∷ item clause.Create four ∷ []))
    (directive kind.Data (item clause.Create four ∷ item clause.NoCreate four ∷ []))

-- what took no action names nothing for a loop inside: this goes on to the next construct around it, or copies the whole array,
-- also where the range came in between; what was counted names its range
abbrev pub NamesWhatItCounted : Type 0
NamesWhatItCounted =
    (placed (of_host 0 (inside (item clause.NoCreate (x_cells 0 2) ∷ []) ∷ [])) (run (counts_up 1) [])
    ≡ Make all_x 1 ∷ CopyIn all_x 1 ∷ Run (counts_up 1) ((1, all_x) ∷ []) ∷ CopyOut all_x 1 ∷ Release 1 ∷ [])
    × (placed (of_host 0 (inside (item clause.NoCreate (x_cells 2 2) ∷ []) ∷ inside (item clause.Create (x_cells 0 2) ∷ []) ∷ [])) (run (counts_up 2) [])
    ≡ Run (counts_up 2) ((1, x_cells 0 2) ∷ []) ∷ [])
    × (refused (of_host 0 (directive kind.EnterData (item clause.Create (x_cells 0 2) ∷ []) ∷ inside (item clause.NoCreate (x_cells 0 2) ∷ []) ∷ [])) (run (counts_up 1) [])
    ≡ Some PartlyPresent)
    × (placed (of_host 0 (inside (item clause.NoCreate (x_cells 0 2) ∷ []) ∷ directive kind.EnterData (item clause.Create all_x ∷ []) ∷ [])) (run (counts_up 2) [])
    ≡ Run (counts_up 2) ((1, x_cells 0 2) ∷ []) ∷ [])
