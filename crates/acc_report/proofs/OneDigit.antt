-- A number of one digit.
use Rattle.std.proofs.Common.{◌≡◌, ◌+◌, ℤ, pos, negsuc, true, [], ◌∷◌, sym, arith}
use lib.Signed.{lt_z, le_z}
use lib.IntN.{nat_abs}
use Rattle.std.specs.Fmt.{signed_decimal}
use Rattle.std.proofs.lemmas.Fmt.{decimal_digit}
use Rattle.std.proofs.lemmas.Int.{ints}

-- Its text is the digit alone.
pub one_digit : (z : ℤ) → le_z (pos 0) z ≡ true → lt_z z (pos 10) ≡ true → (48 + nat_abs z) ∷ [] ≡ signed_decimal z
one_digit (pos n) low high = sym (decimal_digit n (grind (arith, ints)))
one_digit (negsuc n) low high = absurd cc
