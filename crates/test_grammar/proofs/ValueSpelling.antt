-- A value that is spelled out is read again.
use Rattle.std.proofs.Common.{◌≡◌, ℕ, suc, ◌^◌, ◌<◌, ◌≤◌, true, false, List, [], ◌∷◌, ◌++◌, Ok, refl, sym, ◌∙◌, arith}
use Rattle.std.specs.Prelude.{◌==◌, codes, bytes_eq, ℤ, pos, negsuc}
use Rattle.std.specs.List.{prefix_len}
use Rattle.std.specs.Fmt.{decimal}
use Rattle.std.proofs.lemmas.Bool.{false_from_ne_true, false≢true, le-ltb}
use Rattle.std.proofs.lemmas.Slice.Eq.{bytes_eq-Decides}
use Rattle.acc_script.specs.Arrays.{value_of, begins_value}
use Rattle.acc_token.specs.Tokens.{Spot, Lexeme, front, is_letter, is_digit, gap_at, token_len, token_at, number_of}
use Rattle.test_grammar.specs.ValueSpellings.{value_text, IsLong}
use Rattle.test_grammar.proofs.ExpressionSpelling.{at_line, lex}
use Rattle.acc_token.proofs.TokenSpelling.{IsNumber, is_number, not_second, number_token}

-- a value at the front of these bytes, and the rest behind it
pub record ValueHere (line : ℕ) (value : ℤ) (bytes rest : List ℕ) : Type 0 where
  pub token : Lexeme
  pub here : token_at false (at_line line bytes) ≡ Ok token
  pub reads : value_of token ≡ Ok (value, at_line line rest)
  pub begins : begins_value token.text ≡ true
  pub no_brace : bytes_eq token.text (codes "}") ≡ false

minus_token : (line : ℕ) (rest : List ℕ) → token_at false (at_line line (45 ∷ rest)) ≡ Ok (lex (codes "-") line rest)
unfolding token_at gap_at token_len
minus_token line rest = rw (not_second (front rest == 61)) refl

-- digits are no sign
no_sign : (text : List ℕ) (b : ℕ) → is_digit (front text) ≡ true → is_digit b ≡ false → bytes_eq text (b ∷ []) ≡ false
no_sign text b digit other = false_from_ne_true (bytes_eq text (b ∷ [])) (λ same.
    let is : text ≡ b ∷ [] = (bytes_eq-Decides text (b ∷ [])).0 same in
    let digit' : is_digit b ≡ true = rw is at digit in
    false≢true (sym other ∙ digit'))

first_digit : (n : ℕ) (ds : List ℕ) → IsNumber n ds → is_digit (front ds) ≡ true
first_digit n ds is = rw is.is is.digit

-- a number within a limit
pub number_read : (limit n line : ℕ) (ds : List ℕ) (after : Spot) → IsNumber n ds → n ≤ limit
    → number_of limit (record { text = ds; line = line; after = after }) ≡ Ok (n, after)
unfolding number_of
number_read limit n line ds after is small = rw (is.is, is.digit, is.value, le-ltb limit n small) refl

positive_here : (line n : ℕ) (ds rest : List ℕ) → IsNumber n ds → n ≤ 9223372036854775807 → prefix_len is_digit rest ≡ 0 → is_letter (front rest) ≡ false
    → ValueHere line (pos n) (ds ++ rest) rest
unfolding value_of
positive_here line n ds rest is small ends apart =
    let digit = first_digit n ds is in
    record {
      token = lex ds line rest;
      here = number_token false line n ds rest is ends apart;
      reads = rw (no_sign ds 45 digit refl, number_read 9223372036854775807 n line ds (at_line line rest) is small) refl;
      begins = rw digit refl;
      no_brace = no_sign ds 125 digit refl;
    }

negative_here : (line n : ℕ) (ds rest : List ℕ) → IsNumber (suc n) ds → suc n ≤ 9223372036854775808 → prefix_len is_digit rest ≡ 0 → is_letter (front rest) ≡ false
    → ValueHere line (negsuc n) (45 ∷ (ds ++ rest)) rest
unfolding value_of
negative_here line n ds rest is small ends apart =
    record {
      token = lex (codes "-") line (ds ++ rest);
      here = minus_token line (ds ++ rest);
      reads = rw (number_token false line (suc n) ds rest is ends apart, number_read 9223372036854775808 (suc n) line ds (at_line line rest) is small) refl;
      begins = refl;
      no_brace = refl;
    }

fits : (n : ℕ) → n ≤ 9223372036854775808 → n < 2 ^ 64
fits n small = omega arith

-- before a byte that ends it
pub value_here : (line : ℕ) (value : ℤ) (rest : List ℕ) → IsLong value → prefix_len is_digit rest ≡ 0 → is_letter (front rest) ≡ false
    → ValueHere line value (value_text value ++ rest) rest
value_here line (pos n) rest small ends apart =
    positive_here line n (decimal n) rest (is_number n (fits n (omega arith))) small ends apart
value_here line (negsuc n) rest small ends apart =
    negative_here line n (decimal (suc n)) rest (is_number (suc n) (fits (suc n) small)) small ends apart
