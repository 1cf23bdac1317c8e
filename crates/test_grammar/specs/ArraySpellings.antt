-- How arrays are declared in the plainest way, and that they are read so.
use Rattle.std.specs.Prelude.{◌≡◌, ℕ, zero, suc, ◌+◌, false, List, [], ◌∷◌, ◌++◌, All, length, Ok, ℤ, codes, bytes_eq}
use Rattle.std.specs.Fmt.{decimal}
use Rattle.acc_script.specs.Arrays.{Declared, IsDeclared, none_declared, array_turn}
use Rattle.test_grammar.specs.RangeSpellings.{AreNames}
use Rattle.acc_token.specs.Tokens.{Spot, Lexeme, token_at}
use Rattle.acc_token.specs.Turns.{turn, all_turns}
use Rattle.test_grammar.specs.ValueSpellings.{value_text, IsLong}

unfoldable pub more_values : List ℤ → List ℕ → List ℕ
more_values [] behind = codes "}" ++ behind
more_values (value ∷ more) behind = codes "," ++ (value_text value ++ more_values more behind)

-- V,V,..}
unfoldable pub values_text : List ℤ → List ℕ → List ℕ
values_text [] behind = codes "}" ++ behind
values_text (value ∷ more) behind = value_text value ++ more_values more behind

-- long NAME[SIZE] = {V,V,..}; with a line feed
unfoldable pub spelled_array : List ℕ → List ℤ → List ℕ → List ℕ
spelled_array name cells behind =
    codes "long " ++ (name ++ (codes "[" ++ (decimal (length cells) ++ (codes "] = {" ++ values_text cells (codes ";\n" ++ behind)))))

unfoldable pub spelled_arrays : List (List ℕ) → List (List ℤ) → List ℕ → List ℕ
spelled_arrays [] rows behind = behind
spelled_arrays (name ∷ names) [] behind = behind
spelled_arrays (name ∷ names) (cells ∷ rows) behind = spelled_array name cells (spelled_arrays names rows behind)

-- What is left behind so many lines. The last line feed is left to who reads on.
abbrev pub behind_lines : ℕ → ℕ → List ℕ → Spot
behind_lines line zero behind = record { line = line; bytes = behind }
behind_lines line (suc n) behind = record { line = line + n; bytes = codes "\n" ++ behind }

-- Arrays that can be declared are read again as they are spelled, before a token that isn't `long`.
abbrev pub ArraysAreReadAgain : Type 0
ArraysAreReadAgain =
    (arrays : Declared) (line : ℕ) (behind : List ℕ) (next : Lexeme)
    → IsDeclared arrays → AreNames arrays.names → All (λ (cells : List ℤ). All IsLong cells) arrays.cells
    → token_at false (record { line = line + length arrays.names; bytes = behind }) ≡ Ok next → bytes_eq next.text (codes "long") ≡ false
    → all_turns array_turn none_declared (record { line = line; bytes = spelled_arrays arrays.names arrays.cells behind })
    ≡ Ok (turn false arrays (behind_lines line (length arrays.names) behind))
