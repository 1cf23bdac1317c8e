-- Words and names.
use Rattle.std.specs.Prelude.{ℕ, Bool, false, List, [], ◌∷◌, bytes_eq}
use Rattle.std.specs.Borrow.{Bor}
use Rattle.std.specs.List.{list_any}
use Rattle.acc_token.specs.Tokens.{is_letter}

-- a word begins with a letter
abbrev pub begins_with_letter : List ℕ → Bool
begins_with_letter [] = false
begins_with_letter (b ∷ bs) = is_letter b

abbrev pub has_name : List (Bor (List ℕ)) → List ℕ → Bool
has_name names name = list_any (λ other. bytes_eq other.now name) names
