-- Segments that are crowded: two side by side have together more seats than few.
use Rattle.std.proofs.Common.{◌≡◌, ℕ, ◌+◌, ◌*◌, ◌<◌, ◌≤◌, zero, suc, refl, ap, List, [], ◌∷◌, length, insert, remove, slice_get, slice_set, Some, arith}
use Rattle.std.proofs.lemmas.List.{length-append}
use Rattle.acc_raw.specs.declared.segment.Seat.{Seat}
use Rattle.acc_raw.specs.declared.segment.Segment.{Segment}
use Rattle.acc_raw.specs.declared.segment.TheConstants.{FEW, MOST}
use Rattle.acc_raw.specs.inner.Segments.{AreCrowded, AreFilled, IsFirst, lengths, seats_of}

abbrev pub ArePositive : List ℕ → Type 0
ArePositive [] = Unit {0}
ArePositive (n ∷ ns) = (0 < n) × ArePositive ns

-- each segment has a seat
pub positive : (ss : List Segment) → AreFilled ss → ArePositive (lengths ss)
positive [] filled = tt
positive (s ∷ ss) filled = (some s.first s.seats.items filled.0.first, positive ss filled.1) where
  some : (first : ℕ) (seats : List Seat) → IsFirst first seats → 0 < length seats
  some first [] is = absurd is
  some first (t ∷ ts) is = omega arith

-- one of them has no fewer seats than before
pub crowded_more : (ns : List ℕ) (i n m : ℕ) → AreCrowded ns → slice_get ns i ≡ Some n → n ≤ m → AreCrowded (slice_set ns i m)
crowded_more [] i n m c at le = tt
crowded_more (a ∷ []) zero n m c at le = tt
crowded_more (a ∷ []) (suc i) n m c at le = tt
crowded_more (a ∷ b ∷ ns) zero n m c at le = let same : a ≡ n = cc in (omega (arith, c.0, same, le), c.1)
crowded_more (a ∷ b ∷ ns) (suc zero) n m c at le = let same : b ≡ n = cc in (omega (arith, c.0, same, le), crowded_more (b ∷ ns) zero n m c.1 at le)
crowded_more (a ∷ b ∷ ns) (suc (suc i)) n m c at le = (c.0, crowded_more (b ∷ ns) (suc i) n m c.1 at le)

-- one of them has as many as few
pub crowded_half : (ns : List ℕ) (i : ℕ) → ArePositive ns → AreCrowded ns → AreCrowded (slice_set ns i FEW)
crowded_half [] i some c = tt
crowded_half (a ∷ []) zero some c = tt
crowded_half (a ∷ []) (suc i) some c = tt
crowded_half (a ∷ b ∷ ns) zero some c = (omega (arith, some.1.0), c.1)
crowded_half (a ∷ b ∷ ns) (suc zero) some c = (omega (arith, some.0), crowded_half (b ∷ ns) zero some.1 c.1)
crowded_half (a ∷ b ∷ ns) (suc (suc i)) some c = (c.0, crowded_half (b ∷ ns) (suc i) some.1 c.1)

-- one is parted in two that have as many as few
pub crowded_parted : (ns : List ℕ) (i : ℕ) → ArePositive ns → AreCrowded ns → AreCrowded (insert (slice_set ns i FEW) (suc i) FEW)
crowded_parted [] i some c = tt
crowded_parted (a ∷ []) zero some c = (omega arith, tt)
crowded_parted (a ∷ []) (suc i) some c = (omega (arith, some.0), tt)
crowded_parted (a ∷ b ∷ ns) zero some c = (omega arith, (omega (arith, some.1.0), c.1))
crowded_parted (a ∷ b ∷ ns) (suc zero) some c = (omega (arith, some.0), crowded_parted (b ∷ ns) zero some.1 c.1)
crowded_parted (a ∷ b ∷ ns) (suc (suc i)) some c = (c.0, crowded_parted (b ∷ ns) (suc i) some.1 c.1)

-- one goes that had a single seat
pub crowded_gone : (ns : List ℕ) (i : ℕ) → AreCrowded ns → slice_get ns i ≡ Some 1 → AreCrowded (remove ns i)
crowded_gone [] i c at = absurd cc
crowded_gone (a ∷ []) zero c at = tt
crowded_gone (a ∷ []) (suc i) c at = absurd cc
crowded_gone (a ∷ b ∷ ns) zero c at = c.1
crowded_gone (a ∷ b ∷ []) (suc zero) c at = tt
crowded_gone (a ∷ b ∷ d ∷ ns) (suc zero) c at = let one : b ≡ 1 = cc in (omega (arith, c.0, c.1.0, one), c.1.1)
crowded_gone (a ∷ b ∷ ns) (suc (suc i)) c at = joined a b ns i c (crowded_gone (b ∷ ns) (suc i) c.1 at) where
  joined : (a b : ℕ) (ns : List ℕ) (i : ℕ) → AreCrowded (a ∷ b ∷ ns) → AreCrowded (remove (b ∷ ns) (suc i)) → AreCrowded (remove (a ∷ b ∷ ns) (suc (suc i)))
  joined a b ns i c rest = (c.0, rest)

-- The lower of two has lost a seat, and they are joined,
pub crowded_lower : (ns : List ℕ) (i a b : ℕ) → ArePositive ns → slice_get ns i ≡ Some a → slice_get ns (suc i) ≡ Some b → AreCrowded (slice_set ns i (a + 1)) → AreCrowded (slice_set (remove ns (suc i)) i (a + b))
crowded_lower [] i a b some at next c = absurd cc
crowded_lower (p ∷ []) i a b some at next c = absurd cc
crowded_lower (p ∷ q ∷ []) zero a b some at next c = tt
crowded_lower (p ∷ q ∷ r ∷ ns) zero a b some at next c = let second : q ≡ b = cc in (omega (arith, c.0, second, some.1.1.0), c.1.1)
crowded_lower (p ∷ q ∷ []) (suc i) a b some at next c = absurd cc
crowded_lower (p ∷ q ∷ r ∷ ns) (suc zero) a b some at next c = let second : r ≡ b = cc in (omega (arith, c.1.0, second, some.0), crowded_lower (q ∷ r ∷ ns) zero a b some.1 at next c.1)
crowded_lower (p ∷ q ∷ r ∷ ns) (suc (suc i)) a b some at next c = (c.0, crowded_lower (q ∷ r ∷ ns) (suc i) a b some.1 at next c.1)

-- or the upper one has.
pub crowded_upper : (ns : List ℕ) (i a b : ℕ) → ArePositive ns → slice_get ns i ≡ Some a → slice_get ns (suc i) ≡ Some b → AreCrowded (slice_set ns (suc i) (b + 1)) → AreCrowded (slice_set (remove ns (suc i)) i (a + b))
crowded_upper [] i a b some at next c = absurd cc
crowded_upper (p ∷ []) i a b some at next c = absurd cc
crowded_upper (p ∷ q ∷ []) zero a b some at next c = tt
crowded_upper (p ∷ q ∷ r ∷ ns) zero a b some at next c = let first : p ≡ a = cc in (omega (arith, c.0, first, some.1.1.0), c.1.1)
crowded_upper (p ∷ q ∷ []) (suc i) a b some at next c = absurd cc
crowded_upper (p ∷ q ∷ r ∷ ns) (suc zero) a b some at next c = let first : q ≡ a = cc in (omega (arith, c.1.0, first, some.0), crowded_upper (q ∷ r ∷ ns) zero a b some.1 at next c.1)
crowded_upper (p ∷ q ∷ r ∷ ns) (suc (suc i)) a b some at next c = (c.0, crowded_upper (q ∷ r ∷ ns) (suc i) a b some.1 at next c.1)

-- One has lost a seat, and has still more than few together with each neighbour.
pub crowded_still : (ns : List ℕ) (i n : ℕ) → slice_get ns i ≡ Some n → AreCrowded (slice_set ns i (n + 1)) → ((m : ℕ) → slice_get ns (suc i) ≡ Some m → FEW < n + m)
    → ((j m : ℕ) → suc j ≡ i → slice_get ns j ≡ Some m → FEW < m + n) → AreCrowded ns
crowded_still [] i n at c next prev = tt
crowded_still (a ∷ []) i n at c next prev = tt
crowded_still (a ∷ b ∷ ns) zero n at c next prev = let same : a ≡ n = cc in let more = next b refl in (omega (arith, same, more), c.1)
crowded_still (a ∷ b ∷ ns) (suc zero) n at c next prev =
    let same : b ≡ n = cc in let more = prev zero a refl refl in (omega (arith, same, more), crowded_still (b ∷ ns) zero n at c.1 next (λ j m e. absurd (omega (arith, e))))
crowded_still (a ∷ b ∷ ns) (suc (suc i)) n at c next prev = (c.0, crowded_still (b ∷ ns) (suc i) n at c.1 next (λ j m e. prev (suc j) m (ap suc e)))

-- how many seats there are
abbrev pub total : List ℕ → ℕ
total [] = 0
total (n ∷ ns) = n + total ns

pub total_is : (ss : List Segment) → length (seats_of ss) ≡ total (lengths ss)
total_is [] = refl
total_is (s ∷ ss) = let rest = total_is ss in let parts = length-append s.seats.items (seats_of ss) in omega (arith, rest, parts)

total_set : (ns : List ℕ) (i n m : ℕ) → slice_get ns i ≡ Some n → total (slice_set ns i m) + n ≡ total ns + m
total_set [] i n m at = absurd cc
total_set (a ∷ ns) zero n m at = let same : a ≡ n = cc in omega (arith, same)
total_set (a ∷ ns) (suc i) n m at = let rest = total_set ns i n m at in omega (arith, rest)

crowded_many : (n : ℕ) (ns : List ℕ) → ArePositive (n ∷ ns) → AreCrowded (n ∷ ns) → (FEW + 1) * length ns + n ≤ 2 * total (n ∷ ns)
crowded_many n [] some c = omega arith
crowded_many n (m ∷ ns) some c = let rest = crowded_many m ns some.1 c.1 in omega (arith, c.0, rest)

length_set : (ns : List ℕ) (i m : ℕ) → length (slice_set ns i m) ≡ length ns
length_set [] i m = refl
length_set (a ∷ ns) zero m = refl
length_set (a ∷ ns) (suc i) m = ap suc (length_set ns i m)

positive_set : (ns : List ℕ) (i m : ℕ) → ArePositive ns → 0 < m → ArePositive (slice_set ns i m)
positive_set [] i m some lt = tt
positive_set (a ∷ ns) zero m some lt = (lt, some.1)
positive_set (a ∷ ns) (suc i) m some lt = (some.0, positive_set ns i m some.1 lt)

crowded_least : (ns : List ℕ) → ArePositive ns → AreCrowded ns → FEW * length ns ≤ 2 * total ns + FEW
crowded_least [] some c = omega arith
crowded_least (n ∷ ns) some c = let many = crowded_many n ns some c in omega (arith, many)

-- Where one is full, so many seats are in crowded segments that there is no room for more without another.
pub crowded_full : (ns : List ℕ) (i : ℕ) → ArePositive ns → AreCrowded ns → slice_get ns i ≡ Some MOST → FEW * length ns ≤ 2 * total ns
crowded_full ns i some c at =
    let fewer = crowded_least (slice_set ns i FEW) (positive_set ns i FEW some (omega arith)) (crowded_half ns i some c) in
    let moved = total_set ns i MOST FEW at in let same = length_set ns i FEW in omega (arith, fewer, moved, same)
