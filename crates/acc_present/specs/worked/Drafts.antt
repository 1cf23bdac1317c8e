-- What drafts show, computed on small tables.
use Rattle.std.specs.Prelude.{◌≡◌, ℕ, List, [], ◌∷◌}
use Rattle.acc_base.specs.declared.range.Range.{Range}
use Rattle.acc_present.specs.Presences.{Presence}
use Rattle.acc_present.specs.Tables.{kept_after, presences_after}
use Rattle.acc_present.specs.Drafts.{with_changed}
use Rattle.acc_present.specs.worked.Lifetimes.{cells, up, down, finalize, end, held}

-- a changed entry whose data lifetime ended
abbrev pub ended : Range → ℕ → Presence
ended r block = held r block 0 0

abbrev pub two_halves : List Presence
two_halves = held (cells 0 2) 1 0 1 ∷ held (cells 2 2) 2 0 1 ∷ []

-- an entry that a later item finds
abbrev pub OpenedBetween : Type 0
OpenedBetween =
    with_changed (held (cells 4 2) 3 0 1 ∷ []) (held (cells 0 2) 1 0 1 ∷ held (cells 8 2) 2 0 1 ∷ [])
    ≡ presences_after (up (cells 4 2)) 3 (held (cells 0 2) 1 0 1 ∷ held (cells 8 2) 2 0 1 ∷ [])

-- `exit data delete(a[0:2]) delete(a[2:2])`: nothing of a[0:4] is left for a third item
abbrev pub HalvesLeft : Type 0
HalvesLeft = with_changed (ended (cells 0 2) 1 ∷ ended (cells 2 2) 2 ∷ []) two_halves ≡ []

-- after the first of the two, a[0:4] is partly present still
abbrev pub OneHalfLeft : Type 0
OneHalfLeft = with_changed (ended (cells 0 2) 1 ∷ []) two_halves ≡ kept_after (down (cells 0 2)) two_halves

-- an entry that is counted twice, left once and left again
abbrev pub LeftOnce : Type 0
LeftOnce = with_changed (held (cells 0 4) 1 0 1 ∷ []) (held (cells 0 4) 1 0 2 ∷ []) ≡ held (cells 0 4) 1 0 1 ∷ []

abbrev pub LeftTwice : Type 0
LeftTwice = with_changed (ended (cells 0 4) 1 ∷ []) (held (cells 0 4) 1 0 2 ∷ []) ≡ []

-- both halves left, and the whole entered in their place
abbrev pub WholeForHalves : Type 0
WholeForHalves =
    with_changed (ended (cells 0 2) 1 ∷ ended (cells 2 2) 2 ∷ held (cells 0 4) 3 0 1 ∷ []) two_halves
    ≡ held (cells 0 4) 3 0 1 ∷ []

-- the regions that entered it hold what is finalized
abbrev pub FinalizedInARegion : Type 0
FinalizedInARegion =
    with_changed (held (cells 0 4) 1 1 0 ∷ []) (held (cells 0 4) 1 1 2 ∷ [])
    ≡ kept_after (finalize (cells 0 4)) (held (cells 0 4) 1 1 2 ∷ [])

-- `finalize`, and then the end of the region
abbrev pub RegionEndedAfterFinalize : Type 0
RegionEndedAfterFinalize =
    with_changed (ended (cells 0 4) 1 ∷ []) (held (cells 0 4) 1 1 2 ∷ [])
    ≡ kept_after (end (cells 0 4)) (kept_after (finalize (cells 0 4)) (held (cells 0 4) 1 1 2 ∷ []))
