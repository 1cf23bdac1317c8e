-- The tokens of the hosts, as they are made.
use Rattle.std.proofs.Common.{◌≡◌, ℕ, ◌+◌, List, [], ◌∷◌, ◌++◌, length, ◌∙◌, arith}
use Rattle.acc_run.specs.Tokens.{TokenView, AreTokens}

more_from : (h n : ℕ) (ts : List TokenView) (t : TokenView) → AreTokens h ts → n ≡ h + length ts → t.host ≡ n → t.entries ≡ [] → AreTokens h (ts ++ t ∷ [])
more_from h n [] t all count host none = (host ∙ omega (arith, count), none, tt)
more_from h n (k ∷ ts) t all count host none = (all.0, all.1, more_from (h + 1) n ts t all.2 (omega (arith, count)) host none)

pub tokens_more : (ts : List TokenView) (t : TokenView) (n : ℕ) → AreTokens 0 ts → length ts ≡ n → t.host ≡ n → t.entries ≡ [] → AreTokens 0 (ts ++ t ∷ [])
tokens_more ts t n all count host none = more_from 0 n ts t all (omega (arith, count)) host none
