-- Seats by key, in segments. Only private contracts and proofs cite it.
use Rattle.std.specs.Prelude.{◌≡◌, ℕ, ◌+◌, ◌<◌, ◌≤◌, nat_lt, List, [], ◌∷◌, ◌++◌, length, map, take, insert, slice_get, slice_set, Some, All, vec_len, vec_capacity}
use Rattle.std.specs.List.{flat_map, position_or_len}
use Rattle.std.specs.List.Sorted.{IsNonDecreasingBy}
use Rattle.acc_raw.specs.declared.segment.Seat.{Seat}
use Rattle.acc_raw.specs.declared.segment.Segment.{Segment}
use Rattle.acc_raw.specs.declared.segment.TheConstants.{MOST, FEW}
use Rattle.acc_raw.specs.declared.segments.Shelf.{Shelf}
use Rattle.acc_raw.specs.declared.segments.Spot.{Spot}

-- seats in their order, and for how many there is room
pub record SeatsView : Type 0 where
  pub items : List Seat
  pub room : ℕ

abbrev pub keys_of : List Seat → List ℕ
keys_of seats = map (λ s. s.key) seats

-- no key is greater than one behind it
abbrev pub Ascend : List Seat → Type 0
Ascend seats = IsNonDecreasingBy (λ s. s.key) seats

-- how many seats come before the first with a greater key
abbrev pub up_to : ℕ → List Seat → ℕ
up_to key seats = position_or_len (λ s. nat_lt key s.key) seats

-- the seats of all segments
abbrev pub seats_of : List Segment → List Seat
seats_of segments = flat_map (λ s. s.seats.items) segments

-- how many each has
abbrev pub lengths : List Segment → List ℕ
lengths segments = map (λ s. length s.seats.items) segments

-- there is a first seat, with this key
abbrev pub IsFirst : ℕ → List Seat → Type 0
IsFirst key [] = ⊥
IsFirst key (s ∷ ss) = key ≡ s.key

-- a segment with a seat, whose first key is known, and with room for as many as a segment may have
pub record IsFilled (s : Segment) : Type 0 where
  pub first : IsFirst s.first s.seats.items
  pub most : length s.seats.items ≤ MOST
  pub room : MOST ≤ vec_capacity s.seats

abbrev pub AreFilled : List Segment → Type 0
AreFilled [] = Unit {0}
AreFilled (s ∷ ss) = IsFilled s × AreFilled ss

-- a segment without a seat, and with the same room
abbrev pub IsEmpty : Segment → Type 0
IsEmpty s = (s.seats.items ≡ []) × (MOST ≤ vec_capacity s.seats)

-- segments side by side have together more than few
abbrev pub AreCrowded : List ℕ → Type 0
AreCrowded [] = Unit {0}
AreCrowded (n ∷ []) = Unit {0}
AreCrowded (n ∷ m ∷ ns) = (FEW < n + m) × AreCrowded (m ∷ ns)

-- Segments and those without a seat, with room to move one from either list to the other.
pub record IsShelf (s : Shelf) : Type 0 where
  pub filled : AreFilled s.filled.items
  pub empty : All IsEmpty s.empty.items
  pub there : vec_len s.filled + vec_len s.empty ≤ vec_capacity s.filled
  pub back : vec_len s.filled + vec_len s.empty ≤ vec_capacity s.empty

abbrev pub IsKept : Shelf → Type 0
IsKept s = IsShelf s × AreCrowded (lengths s.filled.items)

-- how many segments there are
abbrev pub count_of : Shelf → ℕ
count_of s = vec_len s.filled + vec_len s.empty

-- which of all seats is the one at a spot
abbrev pub number_of : List Segment → Spot → ℕ
number_of ss s = length (seats_of (take s.segment ss)) + s.at

-- the spot is in a segment that is there, or behind its last seat
pub record IsSpot (ss : List Segment) (s : Spot) : Type 0 where
  pub own : Segment
  pub there : slice_get ss s.segment ≡ Some own
  pub within : s.at ≤ length own.seats.items

-- two segments stand in the place of one, with its seats, of which each has as many as few
pub record IsParted (ss : List Segment) (i : ℕ) (new : List Segment) : Type 0 where
  pub own : Segment
  pub there : slice_get ss i ≡ Some own
  pub lower : Segment
  pub upper : Segment
  pub seats : lower.seats.items ++ upper.seats.items ≡ own.seats.items
  pub halves : (length lower.seats.items ≡ FEW) × (length upper.seats.items ≡ FEW)
  pub parted : new ≡ insert (slice_set ss i lower) (i + 1) upper
