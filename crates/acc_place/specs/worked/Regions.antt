-- What data constructs, entries, exits, updates and questions mean, computed on short histories.
use Rattle.std.specs.Prelude.{◌≡◌, true, false, [], ◌∷◌, map, replicate, Some, None}
use Rattle.acc_base.specs.declared.fault.Fault.TheVariants.{BadRange, TooMany, PartlyPresent, NotPresent, DeviceFull, NoRegion}
use Rattle.acc_batch.specs.declared.label.OpLabel.TheVariants.{Make, CopyIn, CopyOut, Release}
use Rattle.acc_place.specs.declared.directive.Clause.TheVariants as clause
use Rattle.acc_place.specs.declared.directive.Kind.TheVariants as kind
use Rattle.acc_place.specs.declared.directive.PlaceEntry.TheVariants.{Accepted}
use Rattle.acc_place.specs.worked.Directives.{cells, four, directive, item, region, region_end, enter, exit, finalize, update, update_if_present, question, left_by, after, fault_in, batch_in, fault_after, batch_after, present_after, presence, answer_after}

-- ## Data constructs

-- a range that is absent is made; `copy` and `copyin` copy it in, and `present` is refused
abbrev pub AbsentAtEntry : Type 0
AbsentAtEntry =
    (batch_after [] (region clause.Copy four) ≡ Make four 1 ∷ CopyIn four 1 ∷ [])
    × (batch_after [] (region clause.Copyin four) ≡ Make four 1 ∷ CopyIn four 1 ∷ [])
    × (batch_after [] (region clause.Copyout four) ≡ Make four 1 ∷ [])
    × (batch_after [] (region clause.Create four) ≡ Make four 1 ∷ [])
    × (fault_after [] (region clause.Present four) ≡ Some NotPresent)
    × (present_after (region clause.Create four ∷ []) ≡ presence four 1 1 0 ∷ [])

-- a range that is present is only counted, a part of it on the whole
abbrev pub PresentAtEntry : Type 0
PresentAtEntry =
    (map (λ c. batch_after (enter clause.Create four ∷ []) (region c (cells 1 2))) (clause.Copy ∷ clause.Copyin ∷ clause.Copyout ∷ clause.Create ∷ clause.Present ∷ []) ≡ replicate 5 [])
    × (map (λ c. present_after (region c (cells 1 2) ∷ enter clause.Create four ∷ [])) (clause.Copy ∷ clause.Present ∷ []) ≡ replicate 2 (presence four 1 1 1 ∷ []))

-- at the last exit `copy` and `copyout` copy out before the block is released, and the others release it, `present` too
abbrev pub LastExit : Type 0
LastExit =
    (batch_after (region clause.Copy four ∷ []) region_end ≡ CopyOut four 1 ∷ Release 1 ∷ [])
    × (batch_after (region clause.Copyin four ∷ []) region_end ≡ Release 1 ∷ [])
    × (batch_after (region clause.Copyout four ∷ []) region_end ≡ CopyOut four 1 ∷ Release 1 ∷ [])
    × (batch_after (region clause.Create four ∷ []) region_end ≡ Release 1 ∷ [])
    × (batch_after (exit clause.Delete four ∷ region clause.Present four ∷ enter clause.Create four ∷ []) region_end ≡ Release 1 ∷ [])
    × (present_after (region_end ∷ region clause.Copy four ∷ []) ≡ [])

-- an exit that isn't the last one only counts
abbrev pub NotTheLastExit : Type 0
NotTheLastExit =
    (batch_after (enter clause.Create four ∷ region clause.Copy four ∷ []) region_end ≡ [])
    × (present_after (region_end ∷ enter clause.Create four ∷ region clause.Copy four ∷ []) ≡ presence four 1 0 1 ∷ [])

-- regions inside one another, the inner one of a part: the outer end alone copies out
abbrev pub Nested : Type 0
Nested =
    (batch_after (region clause.Copyout (cells 0 1) ∷ region clause.Copy four ∷ []) region_end ≡ [])
    × (present_after (region clause.Copyout (cells 0 1) ∷ region clause.Copy four ∷ []) ≡ presence four 1 2 0 ∷ [])
    × (batch_after (region_end ∷ region clause.Copyout (cells 0 1) ∷ region clause.Copy four ∷ []) region_end ≡ CopyOut four 1 ∷ Release 1 ∷ [])

-- each host leaves its own region, in the items of its entry
abbrev pub OwnRegion : Type 0
OwnRegion =
    (batch_in (left_by (Accepted 1 (region clause.Create (cells 4 2)) ∷ Accepted 0 (region clause.Copy four) ∷ [])) 0 region_end ≡ CopyOut four 1 ∷ Release 1 ∷ [])
    × (batch_in (left_by (Accepted 1 (region clause.Create (cells 4 2)) ∷ Accepted 0 (region clause.Copy four) ∷ [])) 1 region_end ≡ Release 2 ∷ [])
    × (fault_in (left_by (Accepted 0 (region clause.Copy four) ∷ [])) 1 region_end ≡ Some NoRegion)

-- a host is inside thirty-two regions at most, and leaves none where it is inside none; other hosts' don't count
abbrev pub Depth : Type 0
Depth =
    (fault_after (replicate 31 (region clause.Create four)) (region clause.Create four) ≡ None)
    × (fault_after (replicate 32 (region clause.Create four)) (region clause.Create four) ≡ Some TooMany)
    × (fault_in (after (replicate 32 (region clause.Create four))) 1 (region clause.Create four) ≡ None)
    × (fault_after (region_end ∷ replicate 32 (region clause.Create four)) (region clause.Create four) ≡ None)
    × (fault_after [] region_end ≡ Some NoRegion)
    × (fault_after (region_end ∷ region clause.Create four ∷ []) region_end ≡ Some NoRegion)

-- ## Enter data and exit data

-- an entry is made or counted on the dynamic counter; an exit below zero takes no action, and `finalize` ends all entries
abbrev pub Entries : Type 0
Entries =
    (batch_after [] (enter clause.Create four) ≡ Make four 1 ∷ [])
    × (batch_after (enter clause.Create four ∷ []) (enter clause.Copyin four) ≡ [])
    × (batch_after (enter clause.Create four ∷ enter clause.Create four ∷ []) (exit clause.Copyout four) ≡ [])
    × (batch_after (enter clause.Create four ∷ enter clause.Create four ∷ []) (finalize clause.Copyout four) ≡ CopyOut four 1 ∷ Release 1 ∷ [])
    × (batch_after [] (exit clause.Copyout four) ≡ [])
    × (fault_after [] (exit clause.Copyout four) ≡ None)

-- inside a region neither exit ends a lifetime
abbrev pub ExitsInside : Type 0
ExitsInside =
    (batch_after (region clause.Create four ∷ []) (exit clause.Delete four) ≡ [])
    × (present_after (exit clause.Delete four ∷ region clause.Create four ∷ []) ≡ presence four 1 1 0 ∷ [])
    × (batch_after (enter clause.Create four ∷ region clause.Create four ∷ []) (finalize clause.Delete four) ≡ [])
    × (present_after (finalize clause.Delete four ∷ enter clause.Create four ∷ region clause.Create four ∷ []) ≡ presence four 1 1 0 ∷ [])

-- ## Updates

-- `self` copies from the device, `device` to it, in the order written; what is absent is a fault without `if_present`, what
-- is partly present in any case
abbrev pub Updates : Type 0
Updates =
    (batch_after (enter clause.Create four ∷ []) (directive (kind.Update false) (item clause.UpdateDevice (cells 0 2) ∷ item clause.UpdateSelf (cells 1 2) ∷ []))
    ≡ CopyIn (cells 0 2) 1 ∷ CopyOut (cells 1 2) 1 ∷ [])
    × (fault_after [] (update clause.UpdateSelf four) ≡ Some NotPresent)
    × (fault_after [] (update_if_present clause.UpdateSelf four) ≡ None)
    × (batch_after [] (update_if_present clause.UpdateSelf four) ≡ [])
    × (fault_after (enter clause.Create (cells 2 4) ∷ []) (update clause.UpdateSelf four) ≡ Some PartlyPresent)
    × (fault_after (enter clause.Create (cells 2 4) ∷ []) (update_if_present clause.UpdateSelf four) ≡ Some PartlyPresent)
    × (present_after (update clause.UpdateSelf four ∷ enter clause.Create four ∷ []) ≡ presence four 1 0 1 ∷ [])

-- ## Questions

-- a part of a present range is present, a range that is partly present isn't, and no question is about a range without cells
abbrev pub Questions : Type 0
Questions =
    (map (λ d. (answer_after (enter clause.Create four ∷ []) d).present) (question four ∷ question (cells 1 2) ∷ question (cells 2 4) ∷ question (cells 4 2) ∷ []) ≡ true ∷ true ∷ false ∷ false ∷ [])
    × ((answer_after (enter clause.Create four ∷ []) (update clause.UpdateSelf four)).present ≡ false)
    × (fault_after (enter clause.Create four ∷ []) (question (cells 2 4)) ≡ None)
    × (fault_after [] (question (cells 0 0)) ≡ Some BadRange)
    × (fault_after [] (question (cells 7 2)) ≡ Some BadRange)
    × (batch_after (enter clause.Create four ∷ []) (question four) ≡ [])

-- ## Faults of several items

-- a region's items are judged in order, each after the marks of those before it, and `present` finds what an earlier item
-- has opened
abbrev pub ItemsInTurn : Type 0
ItemsInTurn =
    (fault_after [] (directive kind.Data (item clause.Create four ∷ item clause.Present (cells 1 2) ∷ [])) ≡ None)
    × (fault_after [] (directive kind.Data (item clause.Present (cells 1 2) ∷ item clause.Create four ∷ [])) ≡ Some NotPresent)
    × (fault_after [] (directive kind.Data (item clause.Create four ∷ item clause.Create (cells 4 3) ∷ [])) ≡ Some DeviceFull)
    × (fault_after [] (directive kind.Data (item clause.Create four ∷ item clause.Create (cells 2 4) ∷ [])) ≡ Some PartlyPresent)
    × (fault_after [] (directive kind.Data (item clause.Present (cells 0 0) ∷ [])) ≡ Some BadRange)
    × (fault_after (enter clause.Create (cells 2 4) ∷ []) (region clause.Present four) ≡ Some PartlyPresent)
