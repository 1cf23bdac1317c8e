-- What may stand one deeper.
use Rattle.std.proofs.Common.{◌≡◌, ℕ, suc, ◌-◌, ◌<◌, None, Some, refl, arith}
use Rattle.acc_script.specs.Expressions.{Names, unary_at, expr_at, deeper}

pub at_the_limit : (names : Names) (deep : ℕ) → deep ≡ 0 → deeper names deep ≡ None
unfolding deeper
at_the_limit names deep none = rw none refl

one_less_is : (names : Names) (deep less : ℕ) → deep ≡ suc less
    → deeper names deep ≡ Some (record { unary = unary_at names (deeper names less); expr = expr_at names (deeper names less) })
unfolding deeper
one_less_is names deep less one = rw one refl

pub one_less : (names : Names) (deep : ℕ) → 0 < deep
    → deeper names deep ≡ Some (record { unary = unary_at names (deeper names (deep - 1)); expr = expr_at names (deeper names (deep - 1)) })
one_less names deep some = one_less_is names deep (deep - 1) (omega arith)
