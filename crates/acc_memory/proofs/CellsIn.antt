-- Which cells a range has, and what a list of cells holds.
use Rattle.std.proofs.Common.{◌≡◌, ℕ, zero, suc, ◌+◌, ◌<◌, ◌≤◌, true, List, [], ◌∷◌, get_or, refl}
use Rattle.std.specs.Prelude.{nat_lt, nat_le, slice_get, ℤ, pos}
use Rattle.std.proofs.lemmas.Bool.{and_parts, and_from, le-leb, leb-true, lt-ltb, ltb-true}
use Rattle.acc_base.specs.declared.range.Range.{Range}
use Rattle.acc_memory.specs.Values.{is_in, or_zero}

pub is_in-parts : (r : Range) (i : ℕ) → is_in r i ≡ true → (r.lo ≤ i) × (i < r.lo + r.len)
is_in-parts r i h =
    let parts = and_parts (nat_le r.lo i) (nat_lt i (r.lo + r.len)) h in
    (leb-true r.lo i parts.0, ltb-true i (r.lo + r.len) parts.1)

pub is_in-from : (r : Range) (i : ℕ) → r.lo ≤ i → i < r.lo + r.len → is_in r i ≡ true
is_in-from r i low high = and_from (nat_le r.lo i) (nat_lt i (r.lo + r.len)) (le-leb r.lo i low) (lt-ltb i (r.lo + r.len) high)

pub get_zero : (xs : List ℤ) (n : ℕ) → get_or xs n (pos 0) ≡ or_zero (slice_get xs n)
get_zero [] n = refl
get_zero (x ∷ xs) zero = refl
get_zero (x ∷ xs) (suc n) = get_zero xs n
