-- How a range is spelled in a script, and that it is read so.
use Rattle.std.specs.Prelude.{◌≡◌, ◌≤◌, ◌<◌, ℕ, Bool, true, false, List, [], ◌++◌, All, length, slice_index_or, Ok, codes}
use Rattle.std.specs.Fmt.{decimal}
use Rattle.acc_base.specs.declared.range.Range.{Range}
use Rattle.acc_script.specs.Arrays.{Declared}
use Rattle.acc_script.specs.Ranges.{range_at}
use Rattle.acc_script.specs.declared.range.TheConstants.{MAX_INDEX}
use Rattle.acc_token.specs.declared.word.TheConstants.{MAX_NAME}
use Rattle.acc_token.specs.Tokens.{front, is_letter, is_word_byte, is_reserved}

-- what an array can be called
pub record IsName (name : List ℕ) : Type 0 where
  pub first : is_letter (front name) ≡ true
  pub word : All (λ b. is_word_byte b ≡ true) name
  pub free : is_reserved name ≡ false
  pub short : length name ≤ MAX_NAME

-- no two arrays are called the same
pub record AreNames (names : List (List ℕ)) : Type 0 where
  pub each : All IsName names
  pub differ : (i j : ℕ) → i < j → j < length names → slice_index_or names i [] ≡ slice_index_or names j [] → ⊥

-- NAME[LO:LEN]
unfoldable pub spelled : List (List ℕ) → Range → List ℕ
spelled names r =
    slice_index_or names r.array [] ++ (codes "[" ++ (decimal r.lo ++ (codes ":" ++ (decimal r.len ++ codes "]"))))

-- A range that is spelled so is read so, whatever follows.
abbrev pub RangeIsReadAgain : Type 0
RangeIsReadAgain =
    (in_directive : Bool) (arrays : Declared) (r : Range) (line : ℕ) (rest : List ℕ)
    → AreNames arrays.names → r.array < length arrays.names → r.lo ≤ MAX_INDEX → r.len ≤ MAX_INDEX
    → range_at in_directive arrays (record { line = line; bytes = spelled arrays.names r ++ rest })
    ≡ Ok (r, record { line = line; bytes = rest })
