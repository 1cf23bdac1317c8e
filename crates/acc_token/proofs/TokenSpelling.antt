-- Tokens that are spelled out are read again.
use Rattle.std.proofs.Common.{◌≡◌, ℕ, ◌+◌, ◌-◌, ◌*◌, ◌/◌, ◌%◌, ◌^◌, ◌<◌, ◌≤◌, Bool, true, false, List, [], ◌∷◌, ◌++◌, length, drop, get_or, Ok, refl, sym, ◌∙◌, arith, ⊎_elim, add-one, eq-eqb, length-append}
use Rattle.std.specs.Prelude.{◌==◌, ◌&&◌, ◌||◌, not, nat_lt, take, bytes_eq, All, codes}
use Rattle.std.specs.List.{list_any, prefix_len}
use Rattle.std.specs.Fmt.{decimal}
use Rattle.std.proofs.lemmas.Bool.{and_left, and_right, and_parts, or_parts, eqb-true, false≢true, ltb-true, le-ltb, lt-ltb, ne_eqb, not-true, not-false, cases_lt}
use Rattle.std.proofs.lemmas.Bool.Decides.{nat_tests}
use Rattle.std.proofs.lemmas.Fmt.{decimal_by_steps}
use Rattle.std.proofs.lemmas.List.Elements.{All-tail}
use Rattle.std.proofs.lemmas.List.Folds.{prefix_len-append}
use Rattle.std.proofs.lemmas.List.Sums.{prefix_len_is, prefix_len_passes}
use Rattle.std.proofs.lemmas.List.{take-append-drop}
use Rattle.std.proofs.lemmas.Slice.Eq.{bytes_eq-Decides}
use Rattle.std.proofs.Math.Seq.{take-append_seam, drop-append_seam}
use Rattle.acc_token.proofs.GapAt.{gap_stops}
use Rattle.acc_token.specs.declared.token.Gap.TheVariants.{Plain}
use Rattle.acc_token.specs.declared.token.Step.TheVariants.{Stop}
use Rattle.acc_token.specs.Tokens.{front, is_letter, is_digit, is_word, is_word_byte, is_blank, is_pair, is_sign, step_of, gap_at, number_len, token_len, token_at, exactly, expect, value_behind}
use Rattle.acc_token.specs.inner.Spans.{is_single}

-- ## A token at the front

-- a token that begins at once, and is as long as these bytes
token_here : (in_directive : Bool) (line first : ℕ) (more rest : List ℕ)
    → step_of Plain in_directive first ≡ Stop → (first == 10) ≡ false
    → token_len line (first ∷ (more ++ rest)) ≡ Ok (length more + 1)
    → token_at in_directive (record { line = line; bytes = first ∷ (more ++ rest) })
    ≡ Ok (record { text = first ∷ more; line = line; after = record { line = line; bytes = rest } })
unfolding token_at
token_here in_directive line first more rest stops plain len =
    rw (gap_stops Plain in_directive line 0 (first ∷ (more ++ rest)) (omega arith) stops, len, add-one (length more), take-append_seam more rest, drop-append_seam more rest, plain) refl

-- a byte from the digits on begins a token
pub stops_here : (in_directive : Bool) (b : ℕ) → 48 ≤ b → step_of Plain in_directive b ≡ Stop
stops_here in_directive b large =
    rw (ne_eqb b 10 (λ e. omega arith), ne_eqb b 32 (λ e. omega arith), ne_eqb b 9 (λ e. omega arith), ne_eqb b 13 (λ e. omega arith), ne_eqb b 47 (λ e. omega arith)) refl

pub letter_large : (b : ℕ) → is_letter b ≡ true → 48 ≤ b
letter_large b letter = grind (arith, nat_tests)

pub digit_bounds : (b : ℕ) → is_digit b ≡ true → (48 ≤ b) × (b < 58)
digit_bounds b digit = let h = and_parts (nat_lt 47 b) (nat_lt b 58) digit in (ltb-true 47 b h.0, ltb-true b 58 h.1)

no_letter : (b : ℕ) → b < 58 → is_letter b ≡ false
no_letter b small = rw (le-ltb 64 b (omega arith), le-ltb 96 b (omega arith), ne_eqb b 95 (λ e. omega arith)) refl

-- a run of bytes that pass a test, and one that doesn't
prefix_seam : (p : ℕ → Bool) (more rest : List ℕ) → prefix_len p more ≡ length more → prefix_len p rest ≡ 0 → prefix_len p (more ++ rest) ≡ length more
prefix_seam p more rest all none = rw (prefix_len-append p more rest, eq-eqb (prefix_len p more) (length more) all, none) (omega arith)

-- ## Signs

-- no pair ends with =, where its first byte is none of a pair
pub not_second : (b : Bool) → (b && false || false) ≡ false
not_second true = refl
not_second false = refl

-- a sign that isn't a pair's first byte
sign_token : (in_directive : Bool) (line sign : ℕ) (rest : List ℕ) → step_of Plain in_directive sign ≡ Stop → (sign == 10) ≡ false
    → is_letter sign ≡ false → is_digit sign ≡ false
    → is_pair sign (front rest) ≡ false → is_sign sign ≡ true
    → token_at in_directive (record { line = line; bytes = sign ∷ rest })
    ≡ Ok (record { text = sign ∷ []; line = line; after = record { line = line; bytes = rest } })
unfolding token_len
sign_token in_directive line sign rest stops plain letter digit pair is =
    token_here in_directive line sign [] rest stops plain (rw (letter, digit, pair, is) refl)

-- what no sign is
abbrev is_other : ℕ → Bool
is_other b = is_letter b || (is_digit b || (b == 10 || (is_blank b || b == 47)))

no_member : (p : ℕ → Bool) (bytes : List ℕ) (b : ℕ) → list_any p bytes ≡ false → list_any (λ s. s == b) bytes ≡ true → p b ≡ false
no_member p [] b none is = absurd (false≢true is)
no_member p (s ∷ bytes) b none is = by (s == b) refl (no_member p bytes b (or_parts (p s) (list_any p bytes) none).1)
  where
    by : (v : Bool) → (s == b) ≡ v → (list_any (λ s. s == b) bytes ≡ true → p b ≡ false) → p b ≡ false
    by true e rest = rw (eqb-true s b e) at (or_parts (p s) (list_any p bytes) none).0
    by false e rest = rest (rw e at is)

-- a sign that is expected, and stands at once
expected_sign : (in_directive : Bool) (line sign : ℕ) (rest : List ℕ) → is_sign sign ≡ true → is_pair sign (front rest) ≡ false
    → expect in_directive (sign ∷ []) (record { line = line; bytes = sign ∷ rest }) ≡ Ok (record { line = line; bytes = rest })
unfolding expect exactly
expected_sign in_directive line sign rest is single =
    let other = no_member is_other (codes "#{}()[],;:=+-*<>?") sign refl is in
    let letter = or_parts (is_letter sign) _ other in
    let digit = or_parts (is_digit sign) _ letter.1 in
    let plain = or_parts (sign == 10) _ digit.1 in
    let blank = or_parts (is_blank sign) (sign == 47) plain.1 in
    let stops : step_of Plain in_directive sign ≡ Stop = rw (plain.0, blank.0, blank.1) refl in
    rw (sign_token in_directive line sign rest stops plain.0 letter.0 digit.0 single is, eq-eqb sign sign refl) refl

-- the same of a text and the bytes that are left
pub sign_at_once : (in_directive : Bool) (line : ℕ) (text bytes : List ℕ) → 1 ≤ length bytes
    → (bytes_eq text (get_or bytes 0 0 ∷ []) && is_sign (get_or bytes 0 0) && not (is_pair (get_or bytes 0 0) (front (drop 1 bytes)))) ≡ true
    → expect in_directive text (record { line = line; bytes = bytes }) ≡ Ok (record { line = line; bytes = drop 1 bytes })
sign_at_once in_directive line text [] some is = absurd (omega arith)
sign_at_once in_directive line text (sign ∷ rest) some is =
    let all = and_parts (bytes_eq text (sign ∷ []) && is_sign sign) (not (is_pair sign (front rest))) is in
    let known = and_parts (bytes_eq text (sign ∷ [])) (is_sign sign) all.0 in
    let same : text ≡ sign ∷ [] = (bytes_eq-Decides text (sign ∷ [])).0 known.0 in
    rw same (expected_sign in_directive line sign rest known.1 (not-true (is_pair sign (front rest)) all.1))

-- a bracket or a comma is no pair's first byte
is_first : ℕ → Bool
is_first b = b == 60 || (b == 62 || (b == 61 || (b == 33 || b == 43)))

not_first : (b next : ℕ) → is_single b ≡ true → is_pair b next ≡ false
unfolding is_first
not_first b next is =
    let none = no_member is_first (codes "()[],") b refl is in
    let less = or_parts (b == 60) _ none in
    let more = or_parts (b == 62) _ less.1 in
    let equal = or_parts (b == 61) _ more.1 in
    let differs = or_parts (b == 33) (b == 43) equal.1 in
    rw (less.0, more.0, equal.0, differs.0, differs.1) (not_second (next == 61))

is_one : (b : ℕ) → is_single b ≡ true → is_sign b ≡ true
is_one b is = not-false (is_sign b) (no_member (λ s. not (is_sign s)) (codes "()[],") b refl is)

pub single_token : (in_directive : Bool) (line : ℕ) (bytes : List ℕ) → 1 ≤ length bytes → is_single (get_or bytes 0 0) ≡ true
    → token_at in_directive (record { line = line; bytes = bytes })
    ≡ Ok (record { text = take 1 bytes; line = line; after = record { line = line; bytes = drop 1 bytes } })
single_token in_directive line [] some is = absurd (omega arith)
single_token in_directive line (b ∷ rest) some is =
    let other = no_member is_other (codes "()[],") b refl is in
    let letter = or_parts (is_letter b) _ other in
    let digit = or_parts (is_digit b) _ letter.1 in
    let plain = or_parts (b == 10) _ digit.1 in
    let blank = or_parts (is_blank b) (b == 47) plain.1 in
    let stops : step_of Plain in_directive b ≡ Stop = rw (plain.0, blank.0, blank.1) refl in
    sign_token in_directive line b rest stops plain.0 letter.0 digit.0 (not_first b (front rest) is) (is_one b is)

-- the end of a directive's line
pub line_feed_token : (line : ℕ) (bytes : List ℕ) → 1 ≤ length bytes → get_or bytes 0 0 ≡ 10
    → token_at true (record { line = line; bytes = bytes })
    ≡ Ok (record { text = take 1 bytes; line = line; after = record { line = line + 1; bytes = drop 1 bytes } })
unfolding token_at gap_at token_len
line_feed_token line [] some is = absurd (omega arith)
line_feed_token line (b ∷ rest) some is = rw (is, not_second (front rest == 61)) refl

pub opening_bracket : (in_directive : Bool) (line : ℕ) (rest : List ℕ)
    → token_at in_directive (record { line = line; bytes = 91 ∷ rest })
    ≡ Ok (record { text = codes "["; line = line; after = record { line = line; bytes = rest } })
opening_bracket in_directive line rest = sign_token in_directive line 91 rest refl refl refl refl (not_second (front rest == 61)) refl

pub colon : (in_directive : Bool) (line : ℕ) (rest : List ℕ)
    → token_at in_directive (record { line = line; bytes = 58 ∷ rest })
    ≡ Ok (record { text = codes ":"; line = line; after = record { line = line; bytes = rest } })
colon in_directive line rest = sign_token in_directive line 58 rest refl refl refl refl (not_second (front rest == 61)) refl

pub closing_bracket : (in_directive : Bool) (line : ℕ) (rest : List ℕ)
    → token_at in_directive (record { line = line; bytes = 93 ∷ rest })
    ≡ Ok (record { text = codes "]"; line = line; after = record { line = line; bytes = rest } })
closing_bracket in_directive line rest = sign_token in_directive line 93 rest refl refl refl refl (not_second (front rest == 61)) refl

-- the same of bytes that have the same token
pub sign_found : (in_directive : Bool) (line : ℕ) (text bytes rest : List ℕ)
    → token_at in_directive (record { line = line; bytes = rest }) ≡ token_at in_directive (record { line = line; bytes = bytes })
    → 1 ≤ length rest
    → (bytes_eq text (get_or rest 0 0 ∷ []) && is_sign (get_or rest 0 0) && not (is_pair (get_or rest 0 0) (front (drop 1 rest)))) ≡ true
    → expect in_directive text (record { line = line; bytes = bytes }) ≡ Ok (record { line = line; bytes = drop 1 rest })
unfolding expect
sign_found in_directive line text bytes rest same some is = rw (sym same) (sign_at_once in_directive line text rest some is)

-- ## Numbers

-- the digits of a number
pub record IsNumber (n : ℕ) (ds : List ℕ) : Type 0 where
  pub first : ℕ
  pub more : List ℕ
  pub is : ds ≡ first ∷ more
  pub digit : is_digit first ≡ true
  pub digits : prefix_len is_digit more ≡ length more
  pub leads : 1 ≤ n → 48 < first
  pub single : n < 10 → more ≡ []
  pub value : value_behind 0 (first ∷ more) ≡ n

-- one digit more
value_push : (n : ℕ) (ds : List ℕ) (d : ℕ) → value_behind n (ds ++ d ∷ []) ≡ 10 * value_behind n ds + (d - 48)
value_push n [] d = refl
value_push n (b ∷ ds) d = value_push (10 * n + (b - 48)) ds d

digit_of : (d : ℕ) → d < 10 → is_digit (48 + d) ≡ true
digit_of d h = rw (lt-ltb 47 (48 + d) (omega arith), lt-ltb (48 + d) 58 (omega arith)) refl

one_digit : (m : ℕ) → m < 10 → IsNumber m ((48 + m) ∷ [])
one_digit m h = record {
  first = 48 + m;
  more = [];
  is = refl;
  digit = digit_of m h;
  digits = refl;
  leads = λ some. omega arith;
  single = λ small. refl;
  value = omega arith;
}

digit_more : (m : ℕ) (ds : List ℕ) → 10 ≤ m → IsNumber (m / 10) ds → IsNumber m (ds ++ (48 + m % 10) ∷ [])
digit_more m ds large n =
    let last : is_digit (48 + m % 10) ≡ true = digit_of (m % 10) (omega arith) in
    record {
      first = n.first;
      more = n.more ++ (48 + m % 10) ∷ [];
      is = rw n.is refl;
      digit = n.digit;
      digits = rw (prefix_len-append is_digit n.more ((48 + m % 10) ∷ []), eq-eqb (prefix_len is_digit n.more) (length n.more) n.digits, length-append n.more ((48 + m % 10) ∷ []), last) refl;
      leads = λ some. n.leads (omega arith);
      single = λ small. absurd (omega arith);
      value = value_push 0 (n.first ∷ n.more) (48 + m % 10) ∙ rw n.value (omega arith);
    }

-- a decimal number is digits, the first of them no 0 but in 0 itself
pub is_number : (n : ℕ) → n < 2 ^ 64 → IsNumber n (decimal n)
is_number n h = decimal_by_steps IsNumber one_digit digit_more n h

-- the test for a leading zero
no_leading_zero : (n : ℕ) (ds : List ℕ) (is : IsNumber n ds) → (is.first == 48 && nat_lt 0 (length is.more)) ≡ false
no_leading_zero n ds is = ⊎_elim
    (λ (small : n < 10). and_right (is.first == 48) (nat_lt 0 (length is.more)) (rw (is.single small) refl))
    (λ (large : 10 ≤ n). and_left (is.first == 48) (nat_lt 0 (length is.more)) (ne_eqb is.first 48 (λ e. let leads = is.leads (omega arith) in omega arith)))
    (cases_lt n 10)

-- a number, before a byte that ends it
pub number_token : (in_directive : Bool) (line n : ℕ) (ds rest : List ℕ) → IsNumber n ds → prefix_len is_digit rest ≡ 0 → is_letter (front rest) ≡ false
    → token_at in_directive (record { line = line; bytes = ds ++ rest })
    ≡ Ok (record { text = ds; line = line; after = record { line = line; bytes = rest } })
unfolding token_len number_len
number_token in_directive line n ds rest is ends apart =
    rw is.is (token_here in_directive line is.first is.more rest (stops_here in_directive is.first bounds.0) (ne_eqb is.first 10 (λ e. omega (arith, bounds.0))) len)
  where
    bounds : (48 ≤ is.first) × (is.first < 58)
    bounds = digit_bounds is.first is.digit

    len : token_len line (is.first ∷ (is.more ++ rest)) ≡ Ok (length is.more + 1)
    len = rw (no_letter is.first bounds.1, is.digit, prefix_seam is_digit is.more rest is.digits ends, drop-append_seam is.more rest, no_leading_zero n ds is, apart) refl

-- a number that stands at once, by its length
pub digits_token : (in_directive : Bool) (line count : ℕ) (bytes : List ℕ) → 1 ≤ length bytes → is_digit (get_or bytes 0 0) ≡ true
    → number_len line (get_or bytes 0 0) (drop 1 bytes) ≡ Ok count
    → token_at in_directive (record { line = line; bytes = bytes })
    ≡ Ok (record { text = take count bytes; line = line; after = record { line = line; bytes = drop count bytes } })
unfolding token_at token_len
digits_token in_directive line count [] some digit len = absurd (omega arith)
digits_token in_directive line count (b ∷ rest) some digit len =
    let bounds = digit_bounds b digit in
    let all : token_len line (b ∷ rest) ≡ Ok count = rw (no_letter b bounds.1, digit) len in
    rw (gap_stops Plain in_directive line 0 (b ∷ rest) (omega arith) (stops_here in_directive b bounds.0), all, ne_eqb b 10 (λ e. omega (arith, bounds.0))) refl

-- ## Words

-- a word, before a byte that ends it
pub word_token : (in_directive : Bool) (line : ℕ) (word rest : List ℕ) → is_letter (front word) ≡ true → All (λ b. is_word_byte b ≡ true) word
    → prefix_len is_word_byte rest ≡ 0
    → token_at in_directive (record { line = line; bytes = word ++ rest })
    ≡ Ok (record { text = word; line = line; after = record { line = line; bytes = rest } })
unfolding token_len
word_token in_directive line [] rest letter all ends = absurd (false≢true letter)
word_token in_directive line (b ∷ bs) rest letter all ends =
    token_here in_directive line b bs rest (stops_here in_directive b large) (ne_eqb b 10 (λ e. omega (arith, large))) len
  where
    large : 48 ≤ b
    large = letter_large b letter

    word : prefix_len is_word_byte bs ≡ length bs
    word = prefix_len_is is_word_byte bs (length bs) 0 (omega arith) (λ k under. All-tail (λ b. is_word_byte b ≡ true) b bs all k 0 under) (λ none. absurd (omega arith))

    len : token_len line (b ∷ (bs ++ rest)) ≡ Ok (length bs + 1)
    len = rw (letter, prefix_seam is_word_byte bs rest word ends) refl

no_more : (bytes : List ℕ) → is_word_byte (front bytes) ≡ false → prefix_len is_word_byte bytes ≡ 0
no_more [] ends = refl
no_more (b ∷ bytes) ends = rw ends refl

-- a word that is expected, behind what has no token of its own
pub word_found : (in_directive : Bool) (line : ℕ) (word bytes rest : List ℕ)
    → token_at in_directive (record { line = line; bytes = rest }) ≡ token_at in_directive (record { line = line; bytes = bytes })
    → is_word word ≡ true → bytes_eq (take (length word) rest) word ≡ true → is_word_byte (front (drop (length word) rest)) ≡ false
    → expect in_directive word (record { line = line; bytes = bytes }) ≡ Ok (record { line = line; bytes = drop (length word) rest })
unfolding expect exactly
word_found in_directive line word bytes rest same is stands ends =
    let behind = drop (length word) rest in
    let known = and_parts (is_letter (front word)) (prefix_len is_word_byte word == length word) is in
    let len = eqb-true (prefix_len is_word_byte word) (length word) known.1 in
    let all : All (λ b. is_word_byte b ≡ true) word = λ k d under. prefix_len_passes is_word_byte word k d (omega (arith, len, under)) in
    let starts : take (length word) rest ≡ word = (bytes_eq-Decides (take (length word) rest) word).0 stands in
    let parts : word ++ behind ≡ rest = rw starts at (take-append-drop {A = ℕ} (length word) rest) in
    let token = rw (parts, same) at (word_token in_directive line word behind known.0 all (no_more behind ends)) in
    rw (token, rw starts at stands) refl
