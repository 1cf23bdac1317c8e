-- A word that isn't read as a number isn't one from 1 to the most.
use Rattle.std.proofs.Common.{◌≡◌, ◌≤◌, ◌<◌, ◌^◌, ◌&&◌, ℕ, Bool, true, false, true≢false, List, [], ◌∷◌, length, Err, None, refl, sym, arith}
use Rattle.std.specs.Prelude.{nat_le}
use Rattle.std.specs.List.{list_all}
use Rattle.std.specs.Char.{is_ascii_digit}
use Rattle.std.specs.Str.{IsAscii, IsUtf8}
use Rattle.std.specs.Str.Parse.{ParsesUnsigned, digits_value}
use Rattle.std.proofs.lemmas.Str.{IsUtf8-from_ascii}
use Rattle.std.proofs.lemmas.Str.Ascii.{IsAscii-nil, IsAscii-cons}
use Rattle.std.proofs.lemmas.Str.Parse.{IsDigitsTest, IsNumeralModel, numerals_by_value, parse_digits}
use Rattle.std.proofs.lemmas.Bool.{le-leb, leb-true}
use Rattle.acc_cases.specs.Options.{number_in}

both : (a b : Bool) → (a && b) ≡ true → (a ≡ true) × (b ≡ true)
both true b e = (refl, e)
both false b e = absurd (true≢false (sym e))

tells_digits : IsDigitsTest (λ ds. list_all is_ascii_digit ds ≡ true)
tells_digits = record {
  empty = refl;
  parts = λ c cs e. let k = both (is_ascii_digit c) (list_all is_ascii_digit cs) e in let m = both (nat_le 48 c) (nat_le c 57) k.0 in ((leb-true 48 c m.0, leb-true c 57 m.1), k.1);
  more = λ c cs k e i. (le-leb 48 c k.0 i && le-leb c 57 k.1 i) && e i;
}

numerals : IsNumeralModel (λ ds. list_all is_ascii_digit ds ≡ true) (digits_value 10)
numerals = numerals_by_value _ tells_digits

has_digits : (text : List ℕ) → 1 ≤ digits_value 10 text → 0 < length text
has_digits [] some = absurd (omega arith)
has_digits (c ∷ cs) some = omega arith

pub not_a_number : {E : Type 0} (most : ℕ) (text : List ℕ) (e : E) → most < 2 ^ 64 → list_all is_ascii_digit text ≡ true
    → ParsesUnsigned 64 10 text (Err e) → number_in most text ≡ None
not_a_number most text e small digits parses = by_cases (nat_le 1 n && nat_le n most) refl
  where
    n : ℕ
    n = digits_value 10 text

    by_cases : (v : Bool) → (nat_le 1 n && nat_le n most) ≡ v → number_in most text ≡ None
    by_cases false off = rw (digits, off) refl
    by_cases true on =
        let k = both (nat_le 1 n) (nat_le n most) on in
        let some : 1 ≤ n = leb-true 1 n k.0 in
        let few : n ≤ most = leb-true n most k.1 in
        absurd (parse_digits numerals 64 text (Err e) parses digits (has_digits text some, omega arith))

-- Digits are text.
ascii : (text : List ℕ) → list_all is_ascii_digit text ≡ true → IsAscii text
ascii [] digits = IsAscii-nil
ascii (c ∷ cs) digits =
    let k = tells_digits.parts c cs digits in
    IsAscii-cons c cs (omega (arith, k.0.1)) (ascii cs k.1)

pub digits_are_text : (text : List ℕ) → list_all is_ascii_digit text ≡ true → IsUtf8 text
digits_are_text text digits = IsUtf8-from_ascii text (ascii text digits)
