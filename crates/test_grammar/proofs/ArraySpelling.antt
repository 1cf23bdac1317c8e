-- Arrays that are declared in the plainest way are read as those arrays.
use Rattle.std.proofs.Common.{◌≡◌, ℕ, suc, ◌+◌, ◌^◌, ◌<◌, ◌≤◌, true, false, List, [], ◌∷◌, ◌++◌, All, length, Ok, refl, sym, ap, ◌∙◌, arith, append_assoc, length-append}
use Rattle.std.specs.Prelude.{◌==◌, ◌-◌, nat_le, codes, bytes_eq, slice_index_or, replicate, ℤ, pos}
use Rattle.std.specs.Fmt.{decimal}
use Rattle.std.proofs.lemmas.Bool.{lt-leb, ne_eqb}
use Rattle.std.proofs.lemmas.List.{append-nil}
use Rattle.std.proofs.lemmas.List.Elements.{All-tail}
use Rattle.std.proofs.Math.ListN.{get_or-append}
use Rattle.std.proofs.Math.Seq.{get_or-append_seam}
use Rattle.acc_base.specs.declared.config.TheConstants.{MAX_ARRAYS, MAX_CELLS}
use Rattle.acc_script.specs.Arrays.{Declared, none_declared, value_turn, value_turn_behind, size_at, padded_cells, initial_values_at, array_at, array_turn}
use Rattle.test_grammar.specs.ArraySpellings.{more_values, values_text, spelled_array, spelled_arrays, behind_lines, ArraysAreReadAgain}
use Rattle.test_grammar.specs.RangeSpellings.{IsName}
use Rattle.acc_token.specs.Tokens.{Spot, Lexeme, front, gap_at, token_len, token_at, exactly, expect}
use Rattle.acc_token.specs.Turns.{turn}
use Rattle.test_grammar.specs.ValueSpellings.{value_text, IsLong}
use Rattle.test_grammar.proofs.ExpressionSpelling.{at_line, lex, ends_statement, ends_cell, behind_space}
use Rattle.test_grammar.proofs.LoopSpelling.{equals_token, opening_brace, joined_long, fresh_here}
use Rattle.acc_token.proofs.TokenSpelling.{IsNumber, is_number, not_second, number_token, word_token, opening_bracket}
use Rattle.test_grammar.proofs.TurnsSpelling.{AllGive, last, more, all_give}
use Rattle.test_grammar.proofs.ValueSpelling.{number_read, value_here}

-- ## Signs

comma : (line : ℕ) (rest : List ℕ) → token_at false (at_line line (44 ∷ rest)) ≡ Ok (lex (codes ",") line rest)
unfolding token_at gap_at token_len
comma line rest = rw (not_second (front rest == 61)) refl

pub last_brace : (line : ℕ) (rest : List ℕ) → token_at false (at_line line (125 ∷ rest)) ≡ Ok (lex (codes "}") line rest)
unfolding token_at gap_at token_len
last_brace line rest = rw (not_second (front rest == 61)) refl

long_token : (line : ℕ) (rest : List ℕ) → token_at false (at_line line (108 ∷ 111 ∷ 110 ∷ 103 ∷ 32 ∷ rest)) ≡ Ok (lex (codes "long") line (32 ∷ rest))
unfolding token_at gap_at token_len
long_token line rest = refl

-- a line feed is skipped
pub behind_feed : (line : ℕ) (rest : List ℕ) → token_at false (at_line line (10 ∷ rest)) ≡ token_at false (at_line (line + 1) rest)
unfolding token_at gap_at
behind_feed line rest = refl

-- ## Values

pub not_yet : (most n : ℕ) → n < most → nat_le most n ≡ false
not_yet most n few = lt-leb most n few

value_more : (size line : ℕ) (cells : List ℤ) (value : ℤ) (rest : List ℕ) → IsLong value → length cells < size
    → value_turn size cells (at_line line (value_text value ++ 44 ∷ rest)) ≡ Ok (turn true (cells ++ value ∷ []) (at_line line rest))
unfolding value_turn value_turn_behind
value_more size line cells value rest small few =
    let v = value_here line value (44 ∷ rest) small refl refl in
    rw (v.here, v.no_brace, v.begins, not_yet size (length cells) few, v.reads, comma line rest) refl

value_last : (size line : ℕ) (cells : List ℤ) (value : ℤ) (rest : List ℕ) → IsLong value → length cells < size
    → value_turn size cells (at_line line (value_text value ++ 125 ∷ rest)) ≡ Ok (turn false (cells ++ value ∷ []) (at_line line rest))
unfolding value_turn value_turn_behind exactly
value_last size line cells value rest small few =
    let v = value_here line value (125 ∷ rest) small refl refl in
    rw (v.here, v.no_brace, v.begins, not_yet size (length cells) few, v.reads, last_brace line rest) refl

values_read : (size line : ℕ) (behind : List ℕ) (left : List ℤ) (value : ℤ) (cells : List ℤ) → IsLong value → All IsLong left
    → length cells + (1 + length left) ≤ size
    → AllGive (value_turn size) cells (at_line line (value_text value ++ more_values left behind)) (Ok (turn false (cells ++ value ∷ left) (at_line line behind)))
unfolding more_values
values_read size line behind [] value cells small each room =
    last (value_turn size) cells (cells ++ value ∷ []) (at_line line (value_text value ++ 125 ∷ behind)) (at_line line behind)
    (value_last size line cells value behind small (omega arith))
values_read size line behind (next ∷ left) value cells small each room =
    let on : List ℕ = value_text next ++ more_values left behind in
    let rest : AllGive (value_turn size) (cells ++ value ∷ []) (at_line line on) (Ok (turn false ((cells ++ value ∷ []) ++ next ∷ left) (at_line line behind))) =
    values_read size line behind left next (cells ++ value ∷ []) (each 0 next (omega arith)) (All-tail IsLong next left each)
    (omega (arith, length-append cells (value ∷ []))) in
    let same : (cells ++ value ∷ []) ++ next ∷ left ≡ cells ++ value ∷ next ∷ left = append_assoc cells (value ∷ []) (next ∷ left) in
    more (value_turn size) cells (cells ++ value ∷ []) (at_line line (value_text value ++ 44 ∷ on)) (at_line line on) _
    (value_more size line cells value on small (omega arith))
    (joined_long (value_text value) (44 ∷ on) (suc (length on)) (omega arith))
    (rw same at rest)

-- ## One array

size_read : (line n : ℕ) (ds rest : List ℕ) → IsNumber n ds → 1 ≤ n → n ≤ MAX_CELLS
    → size_at (at_line line (ds ++ 93 ∷ rest)) ≡ Ok (n, at_line line (93 ∷ rest))
unfolding size_at
size_read line n ds rest is some few =
    rw (
      number_token false line n ds (93 ∷ rest) is refl refl,
      number_read MAX_CELLS n line ds (at_line line (93 ∷ rest)) is few,
      ne_eqb n 0 (λ none. omega arith),
    ) refl

padded_full : (cells : List ℤ) → padded_cells (length cells) cells ≡ cells
padded_full cells =
    let none : length cells - length cells ≡ 0 = omega arith in
    ap (λ n. cells ++ replicate n (pos 0)) none ∙ append-nil cells

cells_read : (cells : List ℤ) (line : ℕ) (rest : List ℕ) → 1 ≤ length cells → All IsLong cells
    → initial_values_at (length cells) (at_line line (32 ∷ 61 ∷ 32 ∷ 123 ∷ values_text cells (59 ∷ rest))) ≡ Ok (cells, at_line line rest)
unfolding initial_values_at expect exactly values_text
cells_read [] line rest some each = absurd (omega arith)
cells_read (value ∷ left) line rest some each =
    let on : List ℕ = value_text value ++ more_values left (59 ∷ rest) in
    rw (
      equals_token line (123 ∷ on),
      opening_brace line on,
      all_give (value_turn (length (value ∷ left))) [] (at_line line on) _
          (values_read (length (value ∷ left)) line (59 ∷ rest) left value [] (each 0 value (omega arith)) (All-tail IsLong value left each) (omega arith)),
      ends_statement line rest,
    ) (ap (λ (cells : List ℤ). Ok (cells, at_line line rest)) (padded_full (value ∷ left)))

abbrev with_array : Declared → List ℕ → List ℤ → Declared
with_array arrays name cells = record { names = arrays.names ++ name ∷ []; cells = arrays.cells ++ cells ∷ [] }

-- none of these is called so
abbrev IsFresh : List (List ℕ) → List ℕ → Type 0
IsFresh taken name = (i : ℕ) → i < length taken → slice_index_or taken i [] ≡ name → ⊥

-- what can be declared
record IsArray (name : List ℕ) (cells : List ℤ) : Type 0 where
  called : IsName name
  some : 1 ≤ length cells
  few : length cells ≤ MAX_CELLS
  each : All IsLong cells

fits : (n : ℕ) → n ≤ MAX_CELLS → n < 2 ^ 64
fits n small = omega arith

behind_name : (arrays : Declared) (name : List ℕ) (cells : List ℤ) (ds : List ℕ) (line : ℕ) (rest : List ℕ)
    → IsArray name cells → IsFresh arrays.names name → IsNumber (length cells) ds
    → array_at arrays (at_line line (32 ∷ (name ++ 91 ∷ (ds ++ 93 ∷ 32 ∷ 61 ∷ 32 ∷ 123 ∷ values_text cells (59 ∷ rest)))))
    ≡ Ok (with_array arrays name cells, at_line line rest)
unfolding array_at expect exactly
behind_name arrays name cells ds line rest is fresh number =
    let cells_on : List ℕ = 32 ∷ 61 ∷ 32 ∷ 123 ∷ values_text cells (59 ∷ rest) in
    let size_on : List ℕ = ds ++ 93 ∷ cells_on in
    rw (
      behind_space line (name ++ 91 ∷ size_on),
      word_token false line name (91 ∷ size_on) is.called.first is.called.word refl,
      fresh_here arrays.names name line (at_line line (91 ∷ size_on)) is.called fresh,
      opening_bracket false line size_on,
      size_read line (length cells) ds cells_on number is.some is.few,
      ends_cell line cells_on,
      cells_read cells line rest is.some is.each,
    ) refl

-- the bytes behind the word `long`
abbrev array_on : List ℕ → List ℤ → List ℕ → List ℕ
array_on name cells rest = 32 ∷ (name ++ 91 ∷ (decimal (length cells) ++ 93 ∷ 32 ∷ 61 ∷ 32 ∷ 123 ∷ values_text cells (59 ∷ 10 ∷ rest)))

array_read : (arrays : Declared) (at : Spot) (name : List ℕ) (cells : List ℤ) (line : ℕ) (rest : List ℕ)
    → IsArray name cells → IsFresh arrays.names name → length arrays.names < MAX_ARRAYS
    → token_at false at ≡ Ok (lex (codes "long") line (array_on name cells rest))
    → array_turn arrays at ≡ Ok (turn true (with_array arrays name cells) (at_line line (10 ∷ rest)))
unfolding array_turn
array_read arrays at name cells line rest is fresh few here =
    rw (
      here,
      not_yet MAX_ARRAYS (length arrays.names) few,
      behind_name arrays name cells (decimal (length cells)) line (10 ∷ rest) is fresh (is_number (length cells) (fits (length cells) is.few)),
    ) refl

array_token : (name : List ℕ) (cells : List ℤ) (line : ℕ) (rest : List ℕ)
    → token_at false (at_line line (spelled_array name cells rest)) ≡ Ok (lex (codes "long") line (array_on name cells rest))
unfolding spelled_array
array_token name cells line rest = long_token line (name ++ 91 ∷ (decimal (length cells) ++ 93 ∷ 32 ∷ 61 ∷ 32 ∷ 123 ∷ values_text cells (59 ∷ 10 ∷ rest)))

-- ## How long a spelling is

more_long : (left : List ℤ) (behind : List ℕ) → length behind ≤ length (more_values left behind)
unfolding more_values
more_long [] behind = omega arith
more_long (value ∷ left) behind =
    let on = joined_long (value_text value) (more_values left behind) (length behind) (more_long left behind) in
    omega arith

values_long : (cells : List ℤ) (behind : List ℕ) → length behind ≤ length (values_text cells behind)
unfolding values_text
values_long [] behind = omega arith
values_long (value ∷ left) behind = joined_long (value_text value) (more_values left behind) (length behind) (more_long left behind)

array_long : (name : List ℕ) (cells : List ℤ) (rest : List ℕ) → suc (length rest) < length (spelled_array name cells rest)
unfolding spelled_array
array_long name cells rest =
    let values : List ℕ = values_text cells (59 ∷ 10 ∷ rest) in
    let values_on = values_long cells (59 ∷ 10 ∷ rest) in
    let size_on = joined_long (decimal (length cells)) (93 ∷ 32 ∷ 61 ∷ 32 ∷ 123 ∷ values) (suc (length rest)) (omega arith) in
    let name_on = joined_long name (91 ∷ (decimal (length cells) ++ 93 ∷ 32 ∷ 61 ∷ 32 ∷ 123 ∷ values)) (suc (length rest)) (omega arith) in
    omega arith

-- ## All arrays

abbrev Differ : List (List ℕ) → Type 0
Differ names = (i j : ℕ) → i < j → j < length names → slice_index_or names i [] ≡ slice_index_or names j [] → ⊥

fresh_by : (taken : List (List ℕ)) (name : List ℕ) (left : List (List ℕ)) → Differ (taken ++ name ∷ left) → IsFresh taken name
fresh_by taken name left differ i within same =
    differ i (length taken) within (omega (arith, length-append taken (name ∷ left)))
    (get_or-append taken (name ∷ left) [] i within ∙ (same ∙ sym (get_or-append_seam taken name left [])))

abbrev joined : Declared → List (List ℕ) → List (List ℤ) → Declared
joined arrays names rows = record { names = arrays.names ++ names; cells = arrays.cells ++ rows }

-- what is left to be declared
record CanFollow (arrays : Declared) (names : List (List ℕ)) (rows : List (List ℤ)) : Type 0 where
  one_each : length rows ≡ length names
  called : All IsName names
  differ : Differ (arrays.names ++ names)
  sizes : All (λ (cells : List ℤ). (1 ≤ length cells) × (length cells ≤ MAX_CELLS)) rows
  each : All (λ (cells : List ℤ). All IsLong cells) rows
  few : length arrays.names + length names ≤ MAX_ARRAYS

first_is : (arrays : Declared) (name : List ℕ) (names : List (List ℕ)) (cells : List ℤ) (rows : List (List ℤ))
    → CanFollow arrays (name ∷ names) (cells ∷ rows) → IsArray name cells
first_is arrays name names cells rows can =
    let size = can.sizes 0 cells (omega arith) in
    record { called = can.called 0 name (omega arith); some = size.0; few = size.1; each = can.each 0 cells (omega arith) }

rest_can : (arrays : Declared) (name : List ℕ) (names : List (List ℕ)) (cells : List ℤ) (rows : List (List ℤ))
    → CanFollow arrays (name ∷ names) (cells ∷ rows) → CanFollow (with_array arrays name cells) names rows
rest_can arrays name names cells rows can =
    let one_each = can.one_each in
    let few = can.few in
    let same : (arrays.names ++ name ∷ []) ++ names ≡ arrays.names ++ name ∷ names = append_assoc arrays.names (name ∷ []) names in
    record {
      one_each = omega arith;
      called = All-tail IsName name names can.called;
      differ = rw same can.differ;
      sizes = All-tail (λ (cells : List ℤ). (1 ≤ length cells) × (length cells ≤ MAX_CELLS)) cells rows can.sizes;
      each = All-tail (λ (cells : List ℤ). All IsLong cells) cells rows can.each;
      few = omega (arith, length-append arrays.names (name ∷ []));
    }

joined_more : (arrays : Declared) (name : List ℕ) (names : List (List ℕ)) (cells : List ℤ) (rows : List (List ℤ))
    → joined (with_array arrays name cells) names rows ≡ joined arrays (name ∷ names) (cells ∷ rows)
joined_more arrays name names cells rows =
    rw (append_assoc arrays.names (name ∷ []) names, append_assoc arrays.cells (cells ∷ []) rows) refl

joined_none : (arrays : Declared) → joined arrays [] [] ≡ arrays
joined_none arrays = rw (append-nil arrays.names, append-nil arrays.cells) refl

no_array : (arrays : Declared) (at : Spot) (next : Lexeme) → token_at false at ≡ Ok next → bytes_eq next.text (codes "long") ≡ false
    → array_turn arrays at ≡ Ok (turn false arrays at)
unfolding array_turn
no_array arrays at next here other = rw (here, other) refl

-- one array, and what all turns give behind it
array_more : (arrays : Declared) (at : Spot) (name : List ℕ) (names : List (List ℕ)) (cells : List ℤ) (rows : List (List ℤ)) (line : ℕ) (rest : List ℕ) (end : Spot)
    → CanFollow arrays (name ∷ names) (cells ∷ rows)
    → token_at false at ≡ Ok (lex (codes "long") line (array_on name cells rest)) → suc (length rest) < length at.bytes
    → AllGive array_turn (with_array arrays name cells) (at_line line (10 ∷ rest)) (Ok (turn false (joined (with_array arrays name cells) names rows) end))
    → AllGive array_turn arrays at (Ok (turn false (joined arrays (name ∷ names) (cells ∷ rows)) end))
array_more arrays at name names cells rows line rest end can here longer left =
    let few = can.few in
    let same = joined_more arrays name names cells rows in
    more array_turn arrays (with_array arrays name cells) at (at_line line (10 ∷ rest)) _
    (array_read arrays at name cells line rest (first_is arrays name names cells rows can) (fresh_by arrays.names name names can.differ) (omega arith) here)
    longer
    (rw same at left)

module _ (behind : List ℕ) (next : Lexeme) (other : bytes_eq next.text (codes "long") ≡ false) where
  -- from the line feed of an array on
  arrays_behind : (names : List (List ℕ)) (rows : List (List ℤ)) (arrays : Declared) (line total : ℕ) → CanFollow arrays names rows
      → line + length names ≡ total → token_at false (at_line (total + 1) behind) ≡ Ok next
      → AllGive array_turn arrays (at_line line (10 ∷ spelled_arrays names rows behind)) (Ok (turn false (joined arrays names rows) (at_line total (10 ∷ behind))))
  unfolding spelled_arrays
  arrays_behind [] [] arrays line total can lines here =
      let same : line ≡ total = omega arith in
      rw (joined_none arrays, same)
      (last array_turn arrays arrays (at_line total (10 ∷ behind)) (at_line total (10 ∷ behind))
      (no_array arrays (at_line total (10 ∷ behind)) next (behind_feed total behind ∙ here) other))
  arrays_behind [] (cells ∷ rows) arrays line total can lines here = let one_each = can.one_each in absurd (omega arith)
  arrays_behind (name ∷ names) [] arrays line total can lines here = let one_each = can.one_each in absurd (omega arith)
  arrays_behind (name ∷ names) (cells ∷ rows) arrays line total can lines here =
      let on : List ℕ = spelled_arrays names rows behind in
      let longer = array_long name cells on in
      array_more arrays (at_line line (10 ∷ spelled_array name cells on)) name names cells rows (line + 1) on (at_line total (10 ∷ behind)) can
      (behind_feed line (spelled_array name cells on) ∙ array_token name cells (line + 1) on)
      (omega arith)
      (arrays_behind names rows (with_array arrays name cells) (line + 1) total (rest_can arrays name names cells rows can) (omega arith) here)

  arrays_read : (names : List (List ℕ)) (rows : List (List ℤ)) (line : ℕ) → CanFollow none_declared names rows
      → token_at false (at_line (line + length names) behind) ≡ Ok next
      → AllGive array_turn none_declared (at_line line (spelled_arrays names rows behind))
      (Ok (turn false (joined none_declared names rows) (behind_lines line (length names) behind)))
  unfolding spelled_arrays
  arrays_read [] [] line can here =
      let none : line + 0 ≡ line = omega arith in
      last array_turn none_declared none_declared (at_line line behind) (at_line line behind)
      (no_array none_declared (at_line line behind) next (rw none at here) other)
  arrays_read [] (cells ∷ rows) line can here = let one_each = can.one_each in absurd (omega arith)
  arrays_read (name ∷ names) [] line can here = let one_each = can.one_each in absurd (omega arith)
  arrays_read (name ∷ names) (cells ∷ rows) line can here =
      let on : List ℕ = spelled_arrays names rows behind in
      let longer = array_long name cells on in
      let lines : line + suc (length names) ≡ line + length names + 1 = omega arith in
      array_more none_declared (at_line line (spelled_array name cells on)) name names cells rows line on (at_line (line + length names) (10 ∷ behind)) can
      (array_token name cells line on)
      longer
      (arrays_behind names rows (with_array none_declared name cells) line (line + length names) (rest_can none_declared name names cells rows can) refl (rw lines at here))

pub arrays_are_read_again : ArraysAreReadAgain
arrays_are_read_again arrays line behind next is names each here other =
    let can : CanFollow none_declared arrays.names arrays.cells =
    record { one_each = is.one_each; called = names.each; differ = names.differ; sizes = is.sizes; each = each; few = omega (arith, is.few) } in
    all_give array_turn none_declared (at_line line (spelled_arrays arrays.names arrays.cells behind)) _
    (arrays_read behind next other arrays.names arrays.cells line can here)
