-- A range that is spelled is read as that range.
use Rattle.std.proofs.Common.{◌≡◌, ℕ, ◌<◌, ◌≤◌, Bool, false, List, [], ◌∷◌, ◌++◌, length, Ok, refl, sym, arith, append_assoc}
use Rattle.std.specs.Prelude.{Some, codes, bytes_eq, slice_index_or}
use Rattle.std.specs.List.{prefix_len, position}
use Rattle.std.specs.Fmt.{decimal}
use Rattle.std.proofs.lemmas.Bool.{false_from_ne_true, le-ltb, lt-ltb}
use Rattle.std.proofs.lemmas.List.Sums.{position_or_len_is}
use Rattle.std.proofs.lemmas.Slice.Eq.{bytes_eq-Decides}
use Rattle.acc_script.specs.Arrays.{Declared, array_of, size_of}
use Rattle.test_grammar.specs.RangeSpellings.{AreNames, spelled, RangeIsReadAgain}
use Rattle.acc_script.specs.Ranges.{range_of, range_at, range_behind, bounds_at, bound_at}
use Rattle.acc_script.specs.declared.range.TheConstants.{MAX_INDEX}
use Rattle.acc_token.specs.declared.word.TheConstants.{MAX_NAME}
use Rattle.acc_token.specs.Tokens.{Spot, front, is_letter, is_digit, exactly, expect, number_of, name_of}
use Rattle.acc_token.proofs.TokenSpelling.{IsNumber, is_number, number_token, word_token, opening_bracket, colon, closing_bracket}

-- a bound, before a byte that ends it
bound_here : (in_directive : Bool) (line n : ℕ) (rest : List ℕ) → n ≤ MAX_INDEX → prefix_len is_digit rest ≡ 0 → is_letter (front rest) ≡ false
    → bound_at in_directive (record { line = line; bytes = decimal n ++ rest }) ≡ Ok (Some n, record { line = line; bytes = rest })
unfolding bound_at number_of
bound_here in_directive line n rest small ends apart = by (decimal n) (is_number n (omega arith))
  where
    by : (ds : List ℕ) → IsNumber n ds → bound_at in_directive (record { line = line; bytes = ds ++ rest }) ≡ Ok (Some n, record { line = line; bytes = rest })
    by ds is = rw (number_token in_directive line n ds rest is ends apart, is.is, is.digit, is.value, le-ltb MAX_INDEX n small) refl

-- the place of a name among names that differ
place_of_name : (names : List (List ℕ)) (i : ℕ) → AreNames names → i < length names → position (bytes_eq (slice_index_or names i [])) names ≡ Some i
place_of_name names i are within =
    let name : List ℕ = slice_index_or names i [] in
    let first = position_or_len_is (bytes_eq name) names i [] (omega arith)
    (λ k under. false_from_ne_true (bytes_eq name (slice_index_or names k [])) (λ same. are.differ k i under within (sym ((bytes_eq-Decides name (slice_index_or names k [])).0 same))))
    (λ _. (bytes_eq-Decides name name).1 refl) in
    rw (first, lt-ltb i (length names) within) refl

-- a name stands for its array
pub array_named : (arrays : Declared) (i line : ℕ) (after : Spot) → AreNames arrays.names → i < length arrays.names
    → array_of arrays (record { text = slice_index_or arrays.names i []; line = line; after = after }) ≡ Ok (i, after)
unfolding array_of name_of
array_named arrays i line after are within =
    let is = are.each i [] within in
    rw (is.first, is.free, le-ltb MAX_NAME (length (slice_index_or arrays.names i [])) is.short, place_of_name arrays.names i are within) refl

-- what stands behind the opening bracket
pub bounds_here : (in_directive : Bool) (array size line lo len : ℕ) (rest : List ℕ) → lo ≤ MAX_INDEX → len ≤ MAX_INDEX
    → bounds_at in_directive array size (record { line = line; bytes = decimal lo ++ 58 ∷ (decimal len ++ 93 ∷ rest) })
    ≡ Ok (record { array = array; lo = lo; len = len }, record { line = line; bytes = rest })
unfolding bounds_at expect exactly
bounds_here in_directive array size line lo len rest small short =
    rw (
      bound_here in_directive line lo (58 ∷ (decimal len ++ 93 ∷ rest)) small refl refl,
      colon in_directive line (decimal len ++ 93 ∷ rest),
      bound_here in_directive line len (93 ∷ rest) short refl refl,
      closing_bracket in_directive line rest,
    ) refl

pub range_is_read_again : RangeIsReadAgain
unfolding spelled range_at range_behind range_of
range_is_read_again in_directive arrays r line rest names within lo len =
    let name : List ℕ = slice_index_or arrays.names r.array [] in
    let is = names.each r.array [] within in
    let behind : List ℕ = decimal r.lo ++ 58 ∷ (decimal r.len ++ 93 ∷ rest) in
    let flat : spelled arrays.names r ++ rest ≡ name ++ 91 ∷ behind =
    rw (append_assoc name (codes "[" ++ (decimal r.lo ++ (codes ":" ++ (decimal r.len ++ codes "]")))) rest, append_assoc (decimal r.lo) (codes ":" ++ (decimal r.len ++ codes "]")) rest, append_assoc (decimal r.len) (codes "]") rest) refl in
    rw (
      flat,
      word_token in_directive line name (91 ∷ behind) is.first is.word refl,
      array_named arrays r.array line (record { line = line; bytes = 91 ∷ behind }) names within,
      opening_bracket in_directive line behind,
      bounds_here in_directive r.array (size_of arrays r.array) line r.lo r.len rest lo len,
    ) refl
