-- The words of lines that are spelled out.
use Rattle.std.proofs.Common.{◌≡◌, ℕ, zero, suc, ◌+◌, ◌%◌, ◌<◌, ◌≤◌, Bool, true, false, List, [], ◌∷◌, ◌++◌, length, refl, arith, ⊎_elim}
use Rattle.std.specs.Prelude.{◌==◌, not, ◌||◌, All, codes, decimal, bytes_eq, Some}
use Rattle.std.specs.List.{AllPass, list_all}
use Rattle.std.proofs.lemmas.Bool.{cases_lt, lt-ltb, ne_eqb, not-true}
use Rattle.std.proofs.lemmas.List.Elements.{All-cons, All-weaker}
use Rattle.std.proofs.lemmas.List.Splits.{slice_split_at, slice_split_none}
use Rattle.std.proofs.lemmas.List.Sums.{AllPass-from_list_all, list_all-from_AllPass, prefix_len_passes}
use Rattle.acc_base.specs.declared.ids.TheConstants.{FIRST_VALUE, QUEUES, VALUES}
use Rattle.acc_report.specs.Lines.{queue_name}
use Rattle.acc_schedule.specs.Schedules.{is_filled, is_number, is_line_byte, is_space, queue_by_word, words}
use Rattle.acc_token.proofs.TokenSpelling.{IsNumber, digit_bounds, is_number as number_spelled}
use Rattle.acc_token.specs.Tokens.{is_digit, value_behind}

-- bytes that can stand in a line, and none of which parts words
pub record IsWord (word : List ℕ) : Type 0 where
  pub filled : is_filled word ≡ true
  pub plain : list_all is_line_byte word ≡ true
  pub whole : list_all (λ b. not (is_space b)) word ≡ true

parts_none : (word : List ℕ) → IsWord word → All (λ (b : ℕ). is_space b ≡ false) word
parts_none word is =
    All-weaker (λ (b : ℕ). not (is_space b) ≡ true) (λ (b : ℕ). is_space b ≡ false) (λ (b : ℕ). not-true (is_space b))
    word (AllPass-from_list_all (λ b. not (is_space b)) word is.whole)

pub words_last : (word : List ℕ) → IsWord word → words word ≡ word ∷ []
words_last word is = rw (slice_split_none is_space word (parts_none word is), is.filled) refl

pub words_next : (word rest : List ℕ) → IsWord word → words (word ++ 32 ∷ rest) ≡ word ∷ words rest
words_next word rest is = rw (slice_split_at is_space word 32 rest (parts_none word is) refl, is.filled) refl

-- ## Numbers

digit_is_plain : (b : ℕ) → is_digit b ≡ true → is_line_byte b ≡ true
digit_is_plain b is =
    let bounds = digit_bounds b is in
    rw (ne_eqb b 9 (λ e. omega (arith, bounds.0)), lt-ltb 31 b (omega (arith, bounds.0)), lt-ltb b 127 (omega (arith, bounds.1))) refl

digit_parts_none : (b : ℕ) → is_digit b ≡ true → not (is_space b) ≡ true
digit_parts_none b is =
    let bounds = digit_bounds b is in
    rw (ne_eqb b 32 (λ e. omega (arith, bounds.0)), ne_eqb b 9 (λ e. omega (arith, bounds.0))) refl

all_digits : (n : ℕ) (ds : List ℕ) → IsNumber n ds → AllPass is_digit ds
all_digits n ds is =
    let more : AllPass is_digit is.more = λ k d under. prefix_len_passes is_digit is.more k d (omega (arith, is.digits, under)) in
    rw is.is (All-cons (λ (b : ℕ). is_digit b ≡ true) is.first is.more is.digit more)

-- the digits of a number are a word
pub is_word : (n : ℕ) (ds : List ℕ) → IsNumber n ds → IsWord ds
is_word n ds is =
    let digits = all_digits n ds is in
    record {
      filled = rw is.is refl;
      plain = list_all-from_AllPass is_line_byte ds (All-weaker (λ (b : ℕ). is_digit b ≡ true) (λ (b : ℕ). is_line_byte b ≡ true) digit_is_plain ds digits);
      whole = list_all-from_AllPass (λ b. not (is_space b)) ds (All-weaker (λ (b : ℕ). is_digit b ≡ true) (λ (b : ℕ). not (is_space b) ≡ true) digit_parts_none ds digits);
    }

or_true : (b : Bool) → (b || true) ≡ true
or_true true = refl
or_true false = refl

no_leading_zero : (n : ℕ) (ds : List ℕ) (is : IsNumber n ds) → (not (is.first == 48) || length is.more == 0) ≡ true
no_leading_zero n ds is = ⊎_elim
    (λ (small : n < 10). rw (is.single small) (or_true (not (is.first == 48))))
    (λ (large : 10 ≤ n). rw (ne_eqb is.first 48 (λ e. let leads = is.leads (omega arith) in omega arith)) refl)
    (cases_lt n 10)

-- they are read as the number
pub number_read : (n : ℕ) (ds : List ℕ) → IsNumber n ds → is_number ds ≡ true
number_read n ds is =
    let digits = list_all-from_AllPass is_digit ds (all_digits n ds is) in
    rw is.is (rw (rw is.is at digits) (no_leading_zero n ds is))

pub value_read : (n : ℕ) (ds : List ℕ) → IsNumber n ds → value_behind 0 ds ≡ n
value_read n ds is = rw is.is is.value

-- no word that begins with a letter
pub no_letters : (n : ℕ) (ds : List ℕ) (letter : ℕ) (more : List ℕ) → IsNumber n ds → 58 ≤ letter → bytes_eq ds (letter ∷ more) ≡ false
no_letters n ds letter more is large =
    let bounds = digit_bounds is.first is.digit in
    rw (is.is, ne_eqb is.first letter (λ e. omega (arith, bounds.1))) refl

-- ## Names of queues

-- a word that names this queue
pub record IsQueueWord (queue : ℕ) (text : List ℕ) : Type 0 where
  pub word : IsWord text
  pub named : queue_by_word text ≡ Some queue

value_word : (value : ℕ) → value < VALUES → (ds : List ℕ) → IsNumber value ds → IsQueueWord (suc (suc value)) ds
value_word value low ds is =
    let queue : value % VALUES + FIRST_VALUE ≡ suc (suc value) = omega (arith, low) in
    record {
      word = is_word value ds is;
      named = rw (
        no_letters value ds 115 (codes "ync") is (omega arith),
        no_letters value ds 110 (codes "oval") is (omega arith),
        number_read value ds is,
        value_read value ds is,
        lt-ltb value VALUES low,
        queue,
      ) refl;
    }

pub queue_word : (queue : ℕ) → queue < QUEUES → IsQueueWord queue (queue_name queue)
queue_word zero low = record { word = record { filled = refl; plain = refl; whole = refl }; named = refl }
queue_word (suc zero) low = record { word = record { filled = refl; plain = refl; whole = refl }; named = refl }
queue_word (suc (suc value)) low = value_word value (omega (arith, low)) (decimal value) (number_spelled value (omega (arith, low)))
