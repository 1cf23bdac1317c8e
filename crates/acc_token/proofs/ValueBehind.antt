-- The value of digits only grows.
use Rattle.std.proofs.Common.{◌≡◌, ℕ, ◌+◌, ◌-◌, ◌*◌, ◌<◌, ◌≤◌, List, [], ◌∷◌, length, drop, get_or, drop-cons, add-one, refl, arith}
use Rattle.acc_token.specs.Tokens.{value_behind}

pub value_grows : (n : ℕ) (digits : List ℕ) → n ≤ value_behind n digits
value_grows n [] = omega arith
value_grows n (b ∷ digits) = omega (arith, value_grows (10 * n + (b - 48)) digits)

-- behind one more digit
pub value_steps : (n i : ℕ) (digits : List ℕ) → i < length digits
    → value_behind n (drop i digits) ≡ value_behind (10 * n + (get_or digits i 0 - 48)) (drop (i + 1) digits)
value_steps n i digits h = rw (drop-cons digits i 0, add-one i) refl
