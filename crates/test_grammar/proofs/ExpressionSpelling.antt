-- An expression that is spelled with all its parentheses is read as that expression.
use Rattle.std.proofs.Common.{◌≡◌, ℕ, zero, suc, ◌+◌, ◌*◌, ◌^◌, ◌<◌, ◌≤◌, true, false, List, [], ◌∷◌, ◌++◌, length, Option, Ok, Some, None, refl, sym, ◌∙◌, arith, add-one}
use Rattle.std.specs.Prelude.{◌==◌, nat_lt, codes, bytes_eq, ℤ, pos, negsuc}
use Rattle.std.specs.List.{prefix_len}
use Rattle.std.specs.Fmt.{decimal}
use Rattle.std.proofs.lemmas.Bool.{false_from_ne_true, false≢true, and_parts, and_right, ltb-true, le-ltb, ne_eqb}
use Rattle.std.proofs.lemmas.Bool.Decides.{nat_tests}
use Rattle.std.proofs.lemmas.Slice.Eq.{bytes_eq-Decides}
use Rattle.acc_kernel.specs.declared.operator.Operator.{Operator}
use Rattle.acc_kernel.specs.declared.operator.Operator.TheVariants.{Plus, Minus, Times, Less, AtMost, More, AtLeast, Equal, Differs}
use Rattle.acc_kernel.specs.Trees.{Tree, Number, Index, Read, Negate, Binary, Choose, depth_of}
use Rattle.acc_script.specs.declared.expression.Level.{Level}
use Rattle.acc_script.specs.declared.expression.Level.TheVariants.{Product, Sum, Comparison, Equality}
use Rattle.acc_token.specs.declared.word.TheConstants.{MAX_NAME}
use Rattle.acc_script.specs.Expressions.{Names, Reader, Deeper, index_at, number_at, offset_at, read_behind, leaf_of, group_of, primary_of, negated_of, unary_at, operator_of, chain_turn, chain_at, product_at, sum_at, compare_at, equal_at, choice_of, expr_at, deeper, expression_at}
use Rattle.test_grammar.specs.ExpressionSpellings.{sign_of, array_name, literal, distance, spelled, IsLiteral, IsSayable, AreApart, ExpressionIsReadAgain}
use Rattle.test_grammar.specs.RangeSpellings.{IsName}
use Rattle.acc_token.specs.Tokens.{Spot, Lexeme, front, is_letter, is_digit, is_word_byte, gap_at, token_len, token_at, exactly, expect, number_of, name_of}
use Rattle.test_grammar.proofs.RangeSpelling.{array_named}
use Rattle.acc_token.proofs.TokenSpelling.{IsNumber, is_number, not_second, number_token, word_token, opening_bracket}
use Rattle.test_grammar.specs.ValueSpellings.{IsSigned}

abbrev pub at_line : ℕ → List ℕ → Spot
at_line line bytes = record { line = line; bytes = bytes }

abbrev pub lex : List ℕ → ℕ → List ℕ → Lexeme
lex text line bytes = record { text = text; line = line; after = at_line line bytes }

-- ## Signs

pub opens : (line : ℕ) (rest : List ℕ) → token_at false (at_line line (40 ∷ rest)) ≡ Ok (lex (codes "(") line rest)
unfolding token_at gap_at token_len
opens line rest = rw (not_second (front rest == 61)) refl

pub closes : (line : ℕ) (rest : List ℕ) → token_at false (at_line line (41 ∷ rest)) ≡ Ok (lex (codes ")") line rest)
unfolding token_at gap_at token_len
closes line rest = rw (not_second (front rest == 61)) refl

pub ends_statement : (line : ℕ) (rest : List ℕ) → token_at false (at_line line (59 ∷ rest)) ≡ Ok (lex (codes ";") line rest)
unfolding token_at gap_at token_len
ends_statement line rest = rw (not_second (front rest == 61)) refl

pub ends_cell : (line : ℕ) (rest : List ℕ) → token_at false (at_line line (93 ∷ rest)) ≡ Ok (lex (codes "]") line rest)
unfolding token_at gap_at token_len
ends_cell line rest = rw (not_second (front rest == 61)) refl

-- a space is skipped
pub behind_space : (line : ℕ) (rest : List ℕ) → token_at false (at_line line (32 ∷ rest)) ≡ token_at false (at_line line rest)
unfolding token_at gap_at
behind_space line rest = refl

-- an operator between spaces
pub operator_token : (operator : Operator) (line : ℕ) (rest : List ℕ)
    → token_at false (at_line line (32 ∷ (sign_of operator ++ 32 ∷ rest))) ≡ Ok (lex (sign_of operator) line (32 ∷ rest))
unfolding token_at gap_at token_len
operator_token Plus line rest = refl
operator_token Minus line rest = refl
operator_token Times line rest = refl
operator_token Less line rest = refl
operator_token AtMost line rest = refl
operator_token More line rest = refl
operator_token AtLeast line rest = refl
operator_token Equal line rest = refl
operator_token Differs line rest = refl

-- what can stand behind an expression: a sign that no expression goes on with
record Closes (behind : List ℕ) : Type 0 where
  sign : ℕ
  rest : List ℕ
  token : (line : ℕ) → token_at false (at_line line behind) ≡ Ok (lex (sign ∷ []) line rest)
  none : (level : Level) → operator_of level (sign ∷ []) ≡ None
  no_choice : bytes_eq (sign ∷ []) (codes "?") ≡ false
  no_digit : prefix_len is_digit behind ≡ 0
  no_word : prefix_len is_word_byte behind ≡ 0
  no_letter : is_letter (front behind) ≡ false

parenthesis : (rest : List ℕ) → Closes (41 ∷ rest)
parenthesis rest = record {
  sign = 41;
  rest = rest;
  token = λ line. closes line rest;
  none = λ (level : Level). elim level as (λ l. operator_of l (codes ")") ≡ None) [ Product ↦ refl | Sum ↦ refl | Comparison ↦ refl | Equality ↦ refl ];
  no_choice = refl;
  no_digit = refl;
  no_word = refl;
  no_letter = refl;
}

semicolon : (rest : List ℕ) → Closes (59 ∷ rest)
semicolon rest = record {
  sign = 59;
  rest = rest;
  token = λ line. ends_statement line rest;
  none = λ (level : Level). elim level as (λ l. operator_of l (codes ";") ≡ None) [ Product ↦ refl | Sum ↦ refl | Comparison ↦ refl | Equality ↦ refl ];
  no_choice = refl;
  no_digit = refl;
  no_word = refl;
  no_letter = refl;
}

no_choice_operator : (level : Level) → operator_of level (codes "?") ≡ None
no_choice_operator Product = refl
no_choice_operator Sum = refl
no_choice_operator Comparison = refl
no_choice_operator Equality = refl

-- ## Chains

-- no operator follows
alone : (level : Level) (part : Reader) (x : Tree) (at end : Spot) (t : Lexeme)
    → part at ≡ Ok (x, end) → token_at false end ≡ Ok t → operator_of level t.text ≡ None → chain_at level part at ≡ Ok (x, end)
unfolding chain_at chain_turn
alone level part x at end t first token none = rw (first, add-one (length end.bytes), token, none) refl

-- one operator follows
pair : (level : Level) (part : Reader) (operator : Operator) (x y : Tree) (at middle end : Spot) (t u : Lexeme) (n : ℕ)
    → part at ≡ Ok (x, middle) → token_at false middle ≡ Ok t → operator_of level t.text ≡ Some operator → length middle.bytes ≡ suc n
    → part t.after ≡ Ok (y, end) → token_at false end ≡ Ok u → operator_of level u.text ≡ None
    → chain_at level part at ≡ Ok (Binary operator x y, end)
unfolding chain_at chain_turn
pair level part operator x y at middle end t u n first token some long second next none =
    rw (first, long, add-one (suc n), token, some, second, next, none) refl

-- an operand before what is no operator of any level
all_alone : (unary : Reader) (x : Tree) (at end : Spot) (t : Lexeme)
    → unary at ≡ Ok (x, end) → token_at false end ≡ Ok t → ((level : Level) → operator_of level t.text ≡ None) → equal_at unary at ≡ Ok (x, end)
all_alone unary x at end t first token none =
    alone Equality (compare_at unary) x at end t
    (alone Comparison (sum_at unary) x at end t
    (alone Sum (product_at unary) x at end t
    (alone Product unary x at end t first token (none Product)) token (none Sum)) token (none Comparison)) token (none Equality)

-- two operands with an operator between them, which stands on one level
module _ (unary : Reader) (x y : Tree) (at middle end : Spot) (t u : Lexeme) (n : ℕ)
    (first : unary at ≡ Ok (x, middle)) (token : token_at false middle ≡ Ok t) (long : length middle.bytes ≡ suc n)
    (second : unary t.after ≡ Ok (y, end)) (next : token_at false end ≡ Ok u) (ends : (level : Level) → operator_of level u.text ≡ None) where
  -- as operands of the level above
  first_of_sum : operator_of Product t.text ≡ None → product_at unary at ≡ Ok (x, middle)
  first_of_sum none = alone Product unary x at middle t first token none

  second_of_sum : product_at unary t.after ≡ Ok (y, end)
  second_of_sum = alone Product unary y t.after end u second next (ends Product)

  first_of_comparison : operator_of Product t.text ≡ None → operator_of Sum t.text ≡ None → sum_at unary at ≡ Ok (x, middle)
  first_of_comparison none none' = alone Sum (product_at unary) x at middle t (first_of_sum none) token none'

  second_of_comparison : sum_at unary t.after ≡ Ok (y, end)
  second_of_comparison = alone Sum (product_at unary) y t.after end u second_of_sum next (ends Sum)

  first_of_equality : operator_of Product t.text ≡ None → operator_of Sum t.text ≡ None → operator_of Comparison t.text ≡ None
      → compare_at unary at ≡ Ok (x, middle)
  first_of_equality none none' none'' = alone Comparison (sum_at unary) x at middle t (first_of_comparison none none') token none''

  second_of_equality : compare_at unary t.after ≡ Ok (y, end)
  second_of_equality = alone Comparison (sum_at unary) y t.after end u second_of_comparison next (ends Comparison)

  above_product : (z : Tree) → product_at unary at ≡ Ok (z, end) → sum_at unary at ≡ Ok (z, end)
  above_product z read = alone Sum (product_at unary) z at end u read next (ends Sum)

  above_sum : (z : Tree) → sum_at unary at ≡ Ok (z, end) → compare_at unary at ≡ Ok (z, end)
  above_sum z read = alone Comparison (sum_at unary) z at end u read next (ends Comparison)

  above_comparison : (z : Tree) → compare_at unary at ≡ Ok (z, end) → equal_at unary at ≡ Ok (z, end)
  above_comparison z read = alone Equality (compare_at unary) z at end u read next (ends Equality)

  of_product : (operator : Operator) → operator_of Product t.text ≡ Some operator → equal_at unary at ≡ Ok (Binary operator x y, end)
  of_product operator some =
      above_comparison _ (above_sum _ (above_product _ (pair Product unary operator x y at middle end t u n first token some long second next (ends Product))))

  of_sum : (operator : Operator) → operator_of Product t.text ≡ None → operator_of Sum t.text ≡ Some operator
      → equal_at unary at ≡ Ok (Binary operator x y, end)
  of_sum operator none some =
      above_comparison _ (above_sum _ (pair Sum (product_at unary) operator x y at middle end t u n (first_of_sum none) token some long second_of_sum next (ends Sum)))

  of_comparison : (operator : Operator) → operator_of Product t.text ≡ None → operator_of Sum t.text ≡ None
      → operator_of Comparison t.text ≡ Some operator → equal_at unary at ≡ Ok (Binary operator x y, end)
  of_comparison operator none none' some =
      above_comparison _ (pair Comparison (sum_at unary) operator x y at middle end t u n (first_of_comparison none none') token some long second_of_comparison next (ends Comparison))

  of_equality : (operator : Operator) → operator_of Product t.text ≡ None → operator_of Sum t.text ≡ None → operator_of Comparison t.text ≡ None
      → operator_of Equality t.text ≡ Some operator → equal_at unary at ≡ Ok (Binary operator x y, end)
  of_equality operator none none' none'' some =
      pair Equality (compare_at unary) operator x y at middle end t u n (first_of_equality none none' none'') token some long second_of_equality next (ends Equality)

  between : (operator : Operator) → t.text ≡ sign_of operator → equal_at unary at ≡ Ok (Binary operator x y, end)
  between Plus is = of_sum Plus (rw is refl) (rw is refl)
  between Minus is = of_sum Minus (rw is refl) (rw is refl)
  between Times is = of_product Times (rw is refl)
  between Less is = of_comparison Less (rw is refl) (rw is refl) (rw is refl)
  between AtMost is = of_comparison AtMost (rw is refl) (rw is refl) (rw is refl)
  between More is = of_comparison More (rw is refl) (rw is refl) (rw is refl)
  between AtLeast is = of_comparison AtLeast (rw is refl) (rw is refl) (rw is refl)
  between Equal is = of_equality Equal (rw is refl) (rw is refl) (rw is refl) (rw is refl)
  between Differs is = of_equality Differs (rw is refl) (rw is refl) (rw is refl) (rw is refl)

-- ## Operands

-- in parentheses, with a space before them or not
grouped : (names : Names) (inner : Deeper) (line : ℕ) (part : Tree) (bytes rest : List ℕ)
    → inner.expr (at_line line bytes) ≡ Ok (part, at_line line (41 ∷ rest))
    → unary_at names (Some inner) (at_line line (40 ∷ bytes)) ≡ Ok (part, at_line line rest)
unfolding unary_at primary_of group_of expect exactly
grouped names inner line part bytes rest read = rw (opens line bytes, read, closes line rest) refl

grouped_behind_space : (names : Names) (inner : Deeper) (line : ℕ) (part : Tree) (bytes rest : List ℕ)
    → inner.expr (at_line line bytes) ≡ Ok (part, at_line line (41 ∷ rest))
    → unary_at names (Some inner) (at_line line (32 ∷ 40 ∷ bytes)) ≡ Ok (part, at_line line rest)
unfolding unary_at primary_of group_of expect exactly
grouped_behind_space names inner line part bytes rest read = rw (behind_space line (40 ∷ bytes), opens line bytes, read, closes line rest) refl

-- the negative of what stands in parentheses
negated : (names : Names) (inner : Deeper) (line : ℕ) (part : Tree) (bytes rest : List ℕ)
    → inner.unary (at_line line (40 ∷ bytes)) ≡ Ok (part, at_line line rest)
    → unary_at names (Some inner) (at_line line (45 ∷ 40 ∷ bytes)) ≡ Ok (Negate part, at_line line rest)
unfolding unary_at negated_of token_at gap_at token_len
negated names inner line part bytes rest read = rw read refl

-- an operand that is all of an expression
whole : (names : Names) (below : Option Deeper) (x : Tree) (at : Spot) (line : ℕ) (behind : List ℕ) → Closes behind
    → equal_at (unary_at names below) at ≡ Ok (x, at_line line behind) → expr_at names below at ≡ Ok (x, at_line line behind)
unfolding expr_at
whole names below x at line behind end read = rw (read, end.token line, end.no_choice) refl

-- ## Leaves

word_large : (b : ℕ) → is_letter b ≡ true → 58 ≤ b
word_large b letter = grind (arith, nat_tests)

digit_large : (b : ℕ) → is_digit b ≡ true → 48 ≤ b
digit_large b digit = ltb-true 47 b (and_parts (nat_lt 47 b) (nat_lt b 58) digit).0

no_digit_first : (b : ℕ) → is_letter b ≡ true → is_digit b ≡ false
no_digit_first b letter = and_right (nat_lt 47 b) (nat_lt b 58) (le-ltb b 58 (word_large b letter))

pub same_bytes : (bytes : List ℕ) → bytes_eq bytes bytes ≡ true
same_bytes bytes = (bytes_eq-Decides bytes bytes).1 refl

pub not_sign : (word : List ℕ) (b : ℕ) → is_letter (front word) ≡ true → is_letter b ≡ false → bytes_eq word (b ∷ []) ≡ false
not_sign word b letter other = false_from_ne_true (bytes_eq word (b ∷ [])) (λ same.
    let is : word ≡ b ∷ [] = (bytes_eq-Decides word (b ∷ [])).0 same in
    let letter' : is_letter b ≡ true = rw is at letter in
    false≢true (sym other ∙ letter'))

fits : (n : ℕ) → n ≤ 9223372036854775807 → n < 2 ^ 64
fits n small = omega arith

number_here : (names : Names) (below : Option Deeper) (line n : ℕ) (behind : List ℕ) → Closes behind → n ≤ 9223372036854775807
    → unary_at names below (at_line line (decimal n ++ behind)) ≡ Ok (Number (pos n), at_line line behind)
unfolding unary_at primary_of leaf_of number_of
number_here names below line n behind end small = by (decimal n) (is_number n (fits n small))
  where
    by : (ds : List ℕ) → IsNumber n ds → unary_at names below (at_line line (ds ++ behind)) ≡ Ok (Number (pos n), at_line line behind)
    by ds is =
        let large = digit_large is.first is.digit in
        rw (
          number_token false line n ds behind is end.no_digit end.no_letter,
          is.is,
          ne_eqb is.first 45 (λ e. omega (arith, large)),
          ne_eqb is.first 40 (λ e. omega (arith, large)),
          is.digit,
          is.value,
          le-ltb 9223372036854775807 n small,
        ) refl

index_here : (names : Names) (below : Option Deeper) (line : ℕ) (behind : List ℕ) → IsName names.index → prefix_len is_word_byte behind ≡ 0
    → unary_at names below (at_line line (names.index ++ behind)) ≡ Ok (Index, at_line line behind)
unfolding unary_at primary_of leaf_of name_of
index_here names below line behind is ends =
    rw (
      word_token false line names.index behind is.first is.word ends,
      not_sign names.index 45 is.first refl,
      not_sign names.index 40 is.first refl,
      no_digit_first (front names.index) is.first,
      is.first,
      is.free,
      le-ltb MAX_NAME (length names.index) is.short,
      same_bytes names.index,
    ) refl

pub name_is : (name : List ℕ) (line : ℕ) (after : Spot) → IsName name → name_of (record { text = name; line = line; after = after }) ≡ Ok (name, after)
unfolding name_of
name_is name line after is = rw (is.first, is.free, le-ltb MAX_NAME (length name) is.short) refl

distance_apart : (offset : ℤ) (behind : List ℕ) → prefix_len is_word_byte (distance offset ++ 93 ∷ behind) ≡ 0
distance_apart (pos n) behind = refl
distance_apart (negsuc n) behind = refl

number_behind : (line n : ℕ) (behind : List ℕ) → n ≤ 9223372036854775807
    → number_at (at_line line (32 ∷ (decimal n ++ 93 ∷ behind))) ≡ Ok (n, at_line line (93 ∷ behind))
unfolding number_at number_of
number_behind line n behind small = by (decimal n) (is_number n (fits n small))
  where
    by : (ds : List ℕ) → IsNumber n ds → number_at (at_line line (32 ∷ (ds ++ 93 ∷ behind))) ≡ Ok (n, at_line line (93 ∷ behind))
    by ds is =
        rw (
          behind_space line (ds ++ 93 ∷ behind),
          number_token false line n ds (93 ∷ behind) is refl refl,
          is.is,
          is.digit,
          is.value,
          le-ltb 9223372036854775807 n small,
        ) refl

offset_here : (line : ℕ) (offset : ℤ) (behind : List ℕ) → IsSigned offset
    → offset_at (at_line line (distance offset ++ 93 ∷ behind)) ≡ Ok (offset, at_line line (93 ∷ behind))
unfolding offset_at
offset_here line (pos n) behind small =
    rw (operator_token Plus line (decimal n ++ 93 ∷ behind), number_behind line n behind small) refl
offset_here line (negsuc n) behind small =
    rw (operator_token Minus line (decimal (suc n) ++ 93 ∷ behind), number_behind line (suc n) behind small) refl

pub index_read : (index : List ℕ) (line : ℕ) (behind : List ℕ) → IsName index → prefix_len is_word_byte behind ≡ 0
    → index_at index (at_line line (index ++ behind)) ≡ Ok (at_line line behind)
unfolding index_at exactly
index_read index line behind is ends =
    rw (word_token false line index behind is.first is.word ends, name_is index line (at_line line behind) is, same_bytes index) refl

cell_here : (names : Names) (below : Option Deeper) (line array : ℕ) (offset : ℤ) (behind : List ℕ) → AreApart names → array < length names.arrays.names → IsSigned offset
    → unary_at names below (at_line line (array_name names array ++ 91 ∷ (names.index ++ (distance offset ++ 93 ∷ behind)))) ≡ Ok (Read array offset, at_line line behind)
unfolding unary_at primary_of leaf_of read_behind expect exactly
cell_here names below line array offset behind are within small =
    let name : List ℕ = array_name names array in
    let is = are.arrays.each array [] within in
    let more : List ℕ = names.index ++ (distance offset ++ 93 ∷ behind) in
    rw (
      word_token false line name (91 ∷ more) is.first is.word refl,
      not_sign name 45 is.first refl,
      not_sign name 40 is.first refl,
      no_digit_first (front name) is.first,
      name_is name line (at_line line (91 ∷ more)) is,
      false_from_ne_true (bytes_eq name names.index) (λ same. are.apart array within ((bytes_eq-Decides name names.index).0 same)),
      array_named names.arrays array line (at_line line (91 ∷ more)) are.arrays within,
      opening_bracket false line more,
      index_read names.index line (distance offset ++ 93 ∷ behind) are.index (distance_apart offset behind),
      offset_here line offset behind small,
      ends_cell line behind,
    ) refl

-- ## Choices

choice_token : (line : ℕ) (rest : List ℕ) → token_at false (at_line line (32 ∷ 63 ∷ 32 ∷ rest)) ≡ Ok (lex (codes "?") line (32 ∷ rest))
unfolding token_at gap_at token_len
choice_token line rest = refl

colon_token : (line : ℕ) (rest : List ℕ) → token_at false (at_line line (32 ∷ 58 ∷ 32 ∷ rest)) ≡ Ok (lex (codes ":") line (32 ∷ rest))
unfolding token_at gap_at token_len
colon_token line rest = refl

colon : (rest : List ℕ) → Closes (32 ∷ 58 ∷ 32 ∷ rest)
colon rest = record {
  sign = 58;
  rest = 32 ∷ rest;
  token = λ line. colon_token line rest;
  none = λ (level : Level). elim level as (λ l. operator_of l (codes ":") ≡ None) [ Product ↦ refl | Sum ↦ refl | Comparison ↦ refl | Equality ↦ refl ];
  no_choice = refl;
  no_digit = refl;
  no_word = refl;
  no_letter = refl;
}

choice_here : (names : Names) (inner : Deeper) (line : ℕ) (test first second : Tree) (at : Spot) (bytes bytes' behind : List ℕ)
    → equal_at (unary_at names (Some inner)) at ≡ Ok (test, at_line line (32 ∷ 63 ∷ 32 ∷ bytes))
    → inner.expr (at_line line (32 ∷ bytes)) ≡ Ok (first, at_line line (32 ∷ 58 ∷ 32 ∷ bytes'))
    → inner.expr (at_line line (32 ∷ bytes')) ≡ Ok (second, at_line line behind)
    → expr_at names (Some inner) at ≡ Ok (Choose test first second, at_line line behind)
unfolding expr_at choice_of expect exactly
choice_here names inner line test first second at bytes bytes' behind tested read read' =
    rw (tested, choice_token line bytes, read, colon_token line bytes', read') refl

-- ## Expressions

-- an operand that is all of an expression
operand : (names : Names) (below : Option Deeper) (x : Tree) (at : Spot) (line : ℕ) (behind : List ℕ) → Closes behind
    → unary_at names below at ≡ Ok (x, at_line line behind) → expr_at names below at ≡ Ok (x, at_line line behind)
operand names below x at line behind end read =
    whole names below x at line behind end (all_alone (unary_at names below) x at (at_line line behind) _ read (end.token line) end.none)

-- the readers where so many more can be opened
abbrev reader : Names → ℕ → Deeper
reader names deep = record { unary = unary_at names (deeper names deep); expr = expr_at names (deeper names deep) }

some_deep : (names : Names) (deep : ℕ) → deeper names (suc deep) ≡ Some (reader names deep)
unfolding deeper
some_deep names deep = refl

-- an expression in parentheses behind a space
group_here : (names : Names) (deep line : ℕ) (part : Tree) (bytes behind : List ℕ) → Closes behind
    → expr_at names (deeper names deep) (at_line line bytes) ≡ Ok (part, at_line line (41 ∷ behind))
    → expr_at names (deeper names (suc deep)) (at_line line (32 ∷ 40 ∷ bytes)) ≡ Ok (part, at_line line behind)
group_here names deep line part bytes behind end read =
    rw (some_deep names deep) (operand names (Some (reader names deep)) part (at_line line (32 ∷ 40 ∷ bytes)) line behind end
    (grouped_behind_space names (reader names deep) line part bytes behind read))

some_depth : (tree : Tree) → 1 ≤ depth_of tree
some_depth (Number value) = omega arith
some_depth Index = omega arith
some_depth (Read array offset) = omega arith
some_depth (Negate part) = omega arith
some_depth (Binary operator left right) = omega arith
some_depth (Choose test first second) = omega arith

module _ (names : Names) (are : AreApart names) where
  literal_here : (value : ℤ) (deep line : ℕ) (behind : List ℕ) → Closes behind → IsLiteral value
      → expr_at names (deeper names deep) (at_line line (literal value ++ behind)) ≡ Ok (Number value, at_line line behind)
  literal_here (pos n) deep line behind end small = operand names (deeper names deep) (Number (pos n)) _ line behind end (number_here names (deeper names deep) line n behind end small)
  literal_here (negsuc n) deep line behind end none = absurd none

  again : (tree : Tree) (deep line : ℕ) (behind : List ℕ) → Closes behind → IsSayable names tree → 2 * depth_of tree ≤ deep + 2
      → expr_at names (deeper names deep) (at_line line (spelled names tree behind)) ≡ Ok (tree, at_line line behind)
  unfolding spelled
  again (Number value) deep line behind end small room = literal_here value deep line behind end small
  again Index deep line behind end said room =
      operand names (deeper names deep) Index _ line behind end (index_here names (deeper names deep) line behind are.index end.no_word)
  again (Read array offset) deep line behind end said room =
      operand names (deeper names deep) (Read array offset) _ line behind end (cell_here names (deeper names deep) line array offset behind are said.0 said.1)
  again (Negate part) zero line behind end said room = absurd (omega (arith, some_depth part))
  again (Negate part) (suc zero) line behind end said room = absurd (omega (arith, some_depth part))
  again (Negate part) (suc (suc deep)) line behind end said room =
      let bytes : List ℕ = spelled names part (41 ∷ behind) in
      let read = again part deep line (41 ∷ behind) (parenthesis behind) said (omega arith) in
      let group : unary_at names (deeper names (suc deep)) (at_line line (40 ∷ bytes)) ≡ Ok (part, at_line line behind) =
      rw (some_deep names deep) (grouped names (reader names deep) line part bytes behind read) in
      rw (some_deep names (suc deep)) (operand names (Some (reader names (suc deep))) (Negate part) (at_line line (45 ∷ 40 ∷ bytes)) line behind end
      (negated names (reader names (suc deep)) line part bytes behind group))
  again (Binary operator left right) zero line behind end said room = absurd (omega (arith, some_depth left))
  again (Binary operator left right) (suc deep) line behind end said room =
      let inner = reader names deep in
      let bytes' : List ℕ = spelled names right (41 ∷ behind) in
      let middle : List ℕ = 32 ∷ (sign_of operator ++ 32 ∷ 40 ∷ bytes') in
      let bytes : List ℕ = spelled names left (41 ∷ middle) in
      let first = again left deep line (41 ∷ middle) (parenthesis middle) said.0 (omega arith) in
      let second = again right deep line (41 ∷ behind) (parenthesis behind) said.1 (omega arith) in
      rw (some_deep names deep) (whole names (Some inner) (Binary operator left right) (at_line line (40 ∷ bytes)) line behind end
      (between (unary_at names (Some inner)) left right (at_line line (40 ∷ bytes)) (at_line line middle) (at_line line behind)
      (lex (sign_of operator) line (32 ∷ 40 ∷ bytes')) (lex (end.sign ∷ []) line end.rest) (length (sign_of operator ++ 32 ∷ 40 ∷ bytes'))
      (grouped names inner line left bytes middle first) (operator_token operator line (40 ∷ bytes')) refl
      (grouped_behind_space names inner line right bytes' behind second) (end.token line) end.none operator refl))
  again (Choose test first second) zero line behind end said room = absurd (omega (arith, some_depth test))
  again (Choose test first second) (suc zero) line behind end said room = absurd (omega (arith, some_depth test))
  again (Choose test first second) (suc (suc deep)) line behind end said room =
      let inner = reader names (suc deep) in
      let last : List ℕ = spelled names second (41 ∷ behind) in
      let colon_on : List ℕ = 32 ∷ 58 ∷ 32 ∷ 40 ∷ last in
      let bytes' : List ℕ = spelled names first (41 ∷ colon_on) in
      let choice_on : List ℕ = 32 ∷ 63 ∷ 32 ∷ 40 ∷ bytes' in
      let bytes : List ℕ = spelled names test (41 ∷ choice_on) in
      let tested = again test (suc deep) line (41 ∷ choice_on) (parenthesis choice_on) said.0 (omega arith) in
      let read = again first deep line (41 ∷ colon_on) (parenthesis colon_on) said.1 (omega arith) in
      let read' = again second deep line (41 ∷ behind) (parenthesis behind) said.2 (omega arith) in
      rw (some_deep names (suc deep)) (choice_here names inner line test first second (at_line line (40 ∷ bytes)) (40 ∷ bytes') (40 ∷ last) behind
      (all_alone (unary_at names (Some inner)) test (at_line line (40 ∷ bytes)) (at_line line choice_on) _
      (grouped names inner line test bytes choice_on tested) (choice_token line (40 ∷ bytes')) no_choice_operator)
      (group_here names deep line first bytes' colon_on (colon (40 ∷ last)) read)
      (group_here names deep line second last behind end read'))

pub expression_is_read_again : ExpressionIsReadAgain
unfolding expression_at
expression_is_read_again names tree line rest are said room =
    again names are tree 64 line (59 ∷ rest) (semicolon rest) said (omega arith)
