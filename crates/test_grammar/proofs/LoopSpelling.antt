-- A loop that is spelled in one line is read as that loop.
use Rattle.std.proofs.Common.{◌≡◌, ℕ, suc, ◌+◌, ◌<◌, ◌≤◌, Bool, true, false, List, [], ◌∷◌, ◌++◌, All, length, Option, Ok, Some, None, refl, sym, ap, arith, append_assoc, length-append}
use Rattle.std.specs.Prelude.{◌==◌, ◌||◌, codes, bytes_eq, slice_index_or, ℤ, pos, negsuc, if◌then◌else◌}
use Rattle.std.specs.List.{list_any, prefix_len}
use Rattle.std.proofs.lemmas.Bool.{false_from_ne_true, or_parts, or_from, lt-ltb}
use Rattle.std.proofs.lemmas.Bool.Decides.{nat_tests}
use Rattle.std.proofs.lemmas.Int.{ints}
use Rattle.std.proofs.lemmas.List.{append-nil}
use Rattle.std.proofs.lemmas.List.Elements.{All-nil, All-cons, All-tail, All-weaker}
use Rattle.std.proofs.lemmas.Slice.Eq.{bytes_eq-Decides}
use Rattle.acc_kernel.specs.declared.assign.Assign.{Assign}
use Rattle.acc_kernel.specs.declared.fault.KernelFault.TheVariants.{ReadsAssigned, NoStatement, TooDeep, TooFar}
use Rattle.acc_kernel.specs.declared.limits.TheConstants.{MAX_DEPTH}
use Rattle.acc_kernel.specs.declared.operator.Operator.TheVariants.{Less}
use Rattle.acc_kernel.specs.Faults.{loop_fault, reads_assigned, is_deep, is_far, has_far}
use Rattle.acc_kernel.specs.Kernels.{Loop, references}
use Rattle.acc_kernel.specs.Trees.{Tree, Number, Index, Read, Negate, Binary, Choose, Reference, depth_of}
use Rattle.acc_script.specs.Arrays.{fresh_name}
use Rattle.acc_script.specs.Expressions.{Names, names, unary_at, chain_at, expr_at, index_at, expression_at}
use Rattle.test_grammar.specs.ExpressionSpellings.{sign_of, array_name, literal, distance, spelled, AreApart}
use Rattle.acc_script.specs.Loops.{type_at, first_at, upper_bound_at, header_at, assign_of, assign_turn, body_at, judged_loop, accepted_loop, loop_at}
use Rattle.test_grammar.specs.LoopSpellings.{spelled_assign, spelled_assigns, spelled_loop, IsSayableAssign, LoopIsReadAgain}
use Rattle.test_grammar.specs.RangeSpellings.{IsName}
use Rattle.acc_token.specs.Tokens.{Spot, front, is_word_byte, is_reserved, gap_at, token_len, token_at, exactly, expect}
use Rattle.acc_token.specs.Turns.{turn}
use Rattle.test_grammar.specs.ValueSpellings.{value_text, IsLong}
use Rattle.test_grammar.proofs.ExpressionSpelling.{at_line, lex, opens, closes, ends_statement, ends_cell, behind_space, operator_token, not_sign, name_is, index_read, expression_is_read_again}
use Rattle.test_grammar.proofs.RangeSpelling.{array_named}
use Rattle.acc_token.proofs.TokenSpelling.{not_second, word_token, opening_bracket}
use Rattle.test_grammar.proofs.TurnsSpelling.{AllGive, last, more, all_give}
use Rattle.test_grammar.proofs.ValueSpelling.{value_here}

-- ## Signs

pub equals_token : (line : ℕ) (rest : List ℕ) → token_at false (at_line line (32 ∷ 61 ∷ 32 ∷ rest)) ≡ Ok (lex (codes "=") line (32 ∷ rest))
unfolding token_at gap_at token_len
equals_token line rest = refl

for_token : (line : ℕ) (rest : List ℕ) → token_at false (at_line line (102 ∷ 111 ∷ 114 ∷ 32 ∷ rest)) ≡ Ok (lex (codes "for") line (32 ∷ rest))
unfolding token_at gap_at token_len
for_token line rest = refl

next_token : (line : ℕ) (rest : List ℕ) → token_at false (at_line line (43 ∷ 43 ∷ rest)) ≡ Ok (lex (codes "++") line rest)
unfolding token_at gap_at token_len
next_token line rest = refl

pub opening_brace : (line : ℕ) (rest : List ℕ) → token_at false (at_line line (32 ∷ 123 ∷ rest)) ≡ Ok (lex (codes "{") line rest)
unfolding token_at gap_at token_len
opening_brace line rest = rw (not_second (front rest == 61)) refl

pub closing_brace : (line : ℕ) (rest : List ℕ) → token_at false (at_line line (32 ∷ 125 ∷ rest)) ≡ Ok (lex (codes "}") line rest)
unfolding token_at gap_at token_len
closing_brace line rest = rw (not_second (front rest == 61)) refl

-- ## Assignments

expression_behind_space : (names : Names) (line : ℕ) (rest : List ℕ) → expression_at names (at_line line (32 ∷ rest)) ≡ expression_at names (at_line line rest)
unfolding expression_at expr_at chain_at unary_at
expression_behind_space names line rest = rw (behind_space line rest) refl

module _ (names : Names) (a : Assign) (line : ℕ) (behind : List ℕ) (are : AreApart names) (said : IsSayableAssign names a) (room : depth_of a.value ≤ MAX_DEPTH) where
  abbrev value_on : List ℕ
  value_on = spelled names a.value (59 ∷ behind)

  assigned : assign_of names (lex (array_name names a.array) line (91 ∷ (names.index ++ 93 ∷ 32 ∷ 61 ∷ 32 ∷ value_on))) ≡ Ok (a, at_line line behind)
  unfolding assign_of expect exactly
  assigned = rw (
    array_named names.arrays a.array line (at_line line (91 ∷ (names.index ++ 93 ∷ 32 ∷ 61 ∷ 32 ∷ value_on))) are.arrays said.0,
    opening_bracket false line (names.index ++ 93 ∷ 32 ∷ 61 ∷ 32 ∷ value_on),
    index_read names.index line (93 ∷ 32 ∷ 61 ∷ 32 ∷ value_on) are.index refl,
    ends_cell line (32 ∷ 61 ∷ 32 ∷ value_on),
    equals_token line value_on,
    expression_behind_space names line value_on,
    expression_is_read_again names a.value line behind are said.1 room,
    ends_statement line behind,
  ) refl

  assign_read : (assigns : List Assign) → assign_turn names assigns (at_line line (spelled_assign names a behind)) ≡ Ok (turn true (assigns ++ a ∷ []) (at_line line behind))
  unfolding assign_turn spelled_assign
  assign_read assigns =
      let name : List ℕ = array_name names a.array in
      let is = are.arrays.each a.array [] said.0 in
      let on : List ℕ = 91 ∷ (names.index ++ 93 ∷ 32 ∷ 61 ∷ 32 ∷ value_on) in
      rw (
        behind_space line (name ++ on),
        word_token false line name on is.first is.word refl,
        not_sign name 125 is.first refl,
        assigned,
      ) refl

assigns_end : (names : Names) (assigns : List Assign) (line : ℕ) (behind : List ℕ) → 0 < length assigns
    → assign_turn names assigns (at_line line (32 ∷ 125 ∷ behind)) ≡ Ok (turn false assigns (at_line line behind))
unfolding assign_turn
assigns_end names assigns line behind some = rw (closing_brace line behind, lt-ltb 0 (length assigns) some) refl

-- ## How long a spelling is

pub joined_long : (xs ys : List ℕ) (n : ℕ) → n ≤ length ys → n ≤ length (xs ++ ys)
joined_long xs ys n long = omega (arith, length-append xs ys)

expression_long : (names : Names) (tree : Tree) (behind : List ℕ) → length behind ≤ length (spelled names tree behind)
unfolding spelled
expression_long names (Number value) behind = joined_long (literal value) behind (length behind) (omega arith)
expression_long names Index behind = joined_long names.index behind (length behind) (omega arith)
expression_long names (Read array offset) behind =
    joined_long (array_name names array) _ (length behind)
    (let inner = joined_long names.index _ (length behind) (joined_long (distance offset) (93 ∷ behind) (length behind) (omega arith)) in omega arith)
expression_long names (Negate part) behind = let inner = expression_long names part (41 ∷ behind) in omega arith
expression_long names (Binary operator left right) behind =
    let right_long = expression_long names right (41 ∷ behind) in
    let last : List ℕ = 32 ∷ 40 ∷ spelled names right (41 ∷ behind) in
    let sign_long = joined_long (sign_of operator) last (length behind) (omega arith) in
    let left_long = expression_long names left (41 ∷ 32 ∷ (sign_of operator ++ last)) in
    omega arith
expression_long names (Choose test first second) behind =
    let last : List ℕ = spelled names second (41 ∷ behind) in
    let last_long = expression_long names second (41 ∷ behind) in
    let middle : List ℕ = spelled names first (41 ∷ 32 ∷ 58 ∷ 32 ∷ 40 ∷ last) in
    let middle_long = expression_long names first (41 ∷ 32 ∷ 58 ∷ 32 ∷ 40 ∷ last) in
    let first_long = expression_long names test (41 ∷ 32 ∷ 63 ∷ 32 ∷ 40 ∷ middle) in
    omega arith

assign_long : (names : Names) (a : Assign) (behind : List ℕ) → length behind < length (spelled_assign names a behind)
unfolding spelled_assign
assign_long names a behind =
    let value_long = expression_long names a.value (59 ∷ behind) in
    let index_long = joined_long names.index (93 ∷ 32 ∷ 61 ∷ 32 ∷ spelled names a.value (59 ∷ behind)) (length behind) (omega arith) in
    let name_long = joined_long (array_name names a.array) (91 ∷ (names.index ++ 93 ∷ 32 ∷ 61 ∷ 32 ∷ spelled names a.value (59 ∷ behind))) (length behind) (omega arith) in
    omega arith

assigns_long : (names : Names) (left : List Assign) (behind : List ℕ) → length behind ≤ length (spelled_assigns names left behind)
unfolding spelled_assigns
assigns_long names [] behind = omega arith
assigns_long names (a ∷ left) behind = omega (arith, assigns_long names left behind, assign_long names a (spelled_assigns names left behind))

pub loop_long : (names : Names) (k : Loop) (behind : List ℕ) → length behind ≤ length (spelled_loop names k behind)
unfolding spelled_loop
loop_long names k behind =
    let size : ℕ = length behind in
    let body : List ℕ = spelled_assigns names k.statements (32 ∷ 125 ∷ behind) in
    let body_long = assigns_long names k.statements (32 ∷ 125 ∷ behind) in
    let third : List ℕ = names.index ++ 43 ∷ 43 ∷ 41 ∷ 32 ∷ 123 ∷ body in
    let third_long = joined_long names.index (43 ∷ 43 ∷ 41 ∷ 32 ∷ 123 ∷ body) size (omega arith) in
    let hi : List ℕ = value_text k.hi ++ 59 ∷ 32 ∷ third in
    let hi_long = joined_long (value_text k.hi) (59 ∷ 32 ∷ third) size (omega arith) in
    let second : List ℕ = names.index ++ 32 ∷ 60 ∷ 32 ∷ hi in
    let second_long = joined_long names.index (32 ∷ 60 ∷ 32 ∷ hi) size (omega arith) in
    let lo : List ℕ = value_text k.lo ++ 59 ∷ 32 ∷ second in
    let lo_long = joined_long (value_text k.lo) (59 ∷ 32 ∷ second) size (omega arith) in
    let first_long = joined_long names.index (32 ∷ 61 ∷ 32 ∷ lo) size (omega arith) in
    omega arith

-- ## All assignments

abbrev IsShallow : Assign → Type 0
IsShallow a = depth_of a.value ≤ MAX_DEPTH

module _ (names : Names) (are : AreApart names) (line : ℕ) (behind : List ℕ) where
  assigns_read : (left assigns : List Assign) → All (λ (a : Assign). IsSayableAssign names a) left → All IsShallow left → 0 < length assigns + length left
      → AllGive (assign_turn names) assigns (at_line line (spelled_assigns names left (32 ∷ 125 ∷ behind))) (Ok (turn false (assigns ++ left) (at_line line behind)))
  unfolding spelled_assigns
  assigns_read [] assigns said room some =
      rw (append-nil assigns) (last (assign_turn names) assigns assigns (at_line line (32 ∷ 125 ∷ behind)) (at_line line behind)
      (assigns_end names assigns line behind (omega arith)))
  assigns_read (a ∷ left) assigns said room some =
      let on : List ℕ = spelled_assigns names left (32 ∷ 125 ∷ behind) in
      let rest : AllGive (assign_turn names) (assigns ++ a ∷ []) (at_line line on) (Ok (turn false ((assigns ++ a ∷ []) ++ left) (at_line line behind))) =
      assigns_read left (assigns ++ a ∷ []) (All-tail (λ (a : Assign). IsSayableAssign names a) a left said) (All-tail IsShallow a left room)
      (omega (arith, length-append assigns (a ∷ []))) in
      let same : (assigns ++ a ∷ []) ++ left ≡ assigns ++ a ∷ left = append_assoc assigns (a ∷ []) left in
      more (assign_turn names) assigns (assigns ++ a ∷ []) (at_line line (spelled_assign names a on)) (at_line line on) _
      (assign_read names a line on are (said 0 a (omega arith)) (room 0 a (omega arith)) assigns)
      (assign_long names a on)
      (rw same at rest)

-- ## The header

not_reserved : (name : List ℕ) → is_reserved name ≡ false → (bytes_eq name (codes "int") || bytes_eq name (codes "long")) ≡ false
not_reserved name free =
    let words = or_parts _ _ free in
    let a = or_parts (bytes_eq name (codes "long")) _ words.0 in
    let b = or_parts (bytes_eq name (codes "int")) _ a.1 in
    rw (b.0, a.0) refl

no_type : (index : List ℕ) (line : ℕ) (rest : List ℕ) → IsName index → prefix_len is_word_byte rest ≡ 0
    → type_at (at_line line (index ++ rest)) ≡ Ok (at_line line (index ++ rest))
unfolding type_at
no_type index line rest is ends = rw (word_token false line index rest is.first is.word ends, not_reserved index is.free) refl

-- a name that none of these is
pub none_called : (taken : List (List ℕ)) (name : List ℕ) → ((i : ℕ) → i < length taken → slice_index_or taken i [] ≡ name → ⊥)
    → list_any (bytes_eq name) taken ≡ false
none_called [] name apart = refl
none_called (other ∷ taken) name apart =
    or_from (bytes_eq name other) (list_any (bytes_eq name) taken)
    (false_from_ne_true (bytes_eq name other) (λ same. apart 0 (omega arith) (sym ((bytes_eq-Decides name other).0 same))))
    (none_called taken name (λ i within. apart (suc i) (omega arith)))

pub fresh_here : (taken : List (List ℕ)) (name : List ℕ) (line : ℕ) (after : Spot) → IsName name
    → ((i : ℕ) → i < length taken → slice_index_or taken i [] ≡ name → ⊥)
    → fresh_name taken (record { text = name; line = line; after = after }) ≡ Ok (name, after)
unfolding fresh_name
fresh_here taken name line after is apart = rw (name_is name line after is, none_called taken name apart) refl

first_read : (names : Names) (line : ℕ) (lo : ℤ) (rest : List ℕ) → AreApart names → IsLong lo
    → first_at names.arrays (at_line line (names.index ++ 32 ∷ 61 ∷ 32 ∷ (value_text lo ++ 59 ∷ rest))) ≡ Ok ((names.index, lo), at_line line rest)
unfolding first_at expect exactly
first_read names line lo rest are small =
    let index : List ℕ = names.index in
    let value_on : List ℕ = value_text lo ++ 59 ∷ rest in
    let value = value_here line lo (59 ∷ rest) small refl refl in
    rw (
      no_type index line (32 ∷ 61 ∷ 32 ∷ value_on) are.index refl,
      word_token false line index (32 ∷ 61 ∷ 32 ∷ value_on) are.index.first are.index.word refl,
      fresh_here names.arrays.names index line (at_line line (32 ∷ 61 ∷ 32 ∷ value_on)) are.index are.apart,
      equals_token line value_on,
      behind_space line value_on,
      value.here,
      value.reads,
      ends_statement line rest,
    ) refl

index_behind_space : (index : List ℕ) (line : ℕ) (rest : List ℕ) → index_at index (at_line line (32 ∷ rest)) ≡ index_at index (at_line line rest)
unfolding index_at
index_behind_space index line rest = rw (behind_space line rest) refl

bound_read : (names : Names) (line : ℕ) (hi : ℤ) (rest : List ℕ) → AreApart names → IsLong hi
    → upper_bound_at names.index (at_line line (32 ∷ (names.index ++ 32 ∷ 60 ∷ 32 ∷ (value_text hi ++ 59 ∷ rest)))) ≡ Ok (hi, at_line line rest)
unfolding upper_bound_at expect exactly
bound_read names line hi rest are small =
    let value_on : List ℕ = value_text hi ++ 59 ∷ rest in
    let value = value_here line hi (59 ∷ rest) small refl refl in
    rw (
      index_behind_space names.index line (names.index ++ 32 ∷ 60 ∷ 32 ∷ value_on),
      index_read names.index line (32 ∷ 60 ∷ 32 ∷ value_on) are.index refl,
      operator_token Less line value_on,
      behind_space line value_on,
      value.here,
      value.reads,
      ends_statement line rest,
    ) refl

header_read : (names : Names) (line : ℕ) (lo hi : ℤ) (rest : List ℕ) → AreApart names → IsLong lo → IsLong hi
    → header_at names.arrays (at_line line (32 ∷ 40 ∷ (names.index ++ 32 ∷ 61 ∷ 32 ∷ (value_text lo ++ 59
    ∷ 32 ∷ (names.index ++ 32 ∷ 60 ∷ 32 ∷ (value_text hi ++ 59 ∷ 32 ∷ (names.index ++ 43 ∷ 43 ∷ 41 ∷ rest)))))))
    ≡ Ok (record { index = names.index; lo = lo; hi = hi }, at_line line rest)
unfolding header_at expect exactly
header_read names line lo hi rest are low high =
    let next : List ℕ = 32 ∷ (names.index ++ 43 ∷ 43 ∷ 41 ∷ rest) in
    let bound : List ℕ = 32 ∷ (names.index ++ 32 ∷ 60 ∷ 32 ∷ (value_text hi ++ 59 ∷ next)) in
    let first : List ℕ = names.index ++ 32 ∷ 61 ∷ 32 ∷ (value_text lo ++ 59 ∷ bound) in
    rw (
      behind_space line (40 ∷ first),
      opens line first,
      first_read names line lo bound are low,
      bound_read names line hi next are high,
      index_behind_space names.index line (names.index ++ 43 ∷ 43 ∷ 41 ∷ rest),
      index_read names.index line (43 ∷ 43 ∷ 41 ∷ rest) are.index refl,
      next_token line (41 ∷ rest),
      closes line rest,
    ) refl

-- ## What a loop without a fault keeps

none_else : {A : Type 0} (b : Bool) (x : A) (o : Option A) → (if b then Some x else o) ≡ None → (b ≡ false) × (o ≡ None)
none_else true x o none = let no : ⊥ = cc in absurd no
none_else false x o none = (refl, none)

none_passes : {X : Type 0} (p : X → Bool) (xs : List X) → list_any p xs ≡ false → All (λ x. p x ≡ false) xs
none_passes p [] none = All-nil (λ x. p x ≡ false)
none_passes p (x ∷ xs) none =
    let both = or_parts (p x) (list_any p xs) none in
    All-cons (λ y. p y ≡ false) x xs both.0 (none_passes p xs both.1)

near_long : (n : ℤ) → is_far n ≡ false → IsLong n
near_long (pos n) near = grind (arith, ints)
near_long (negsuc n) near = grind (arith, ints)

shallow : (a : Assign) → is_deep a ≡ false → depth_of a.value ≤ MAX_DEPTH
shallow a low = grind (arith, nat_tests)

some_statement : (n : ℕ) → (n == 0) ≡ false → 0 < n
some_statement n some = grind (arith, nat_tests)

record IsFree (k : Loop) : Type 0 where
  lo : IsLong k.lo
  hi : IsLong k.hi
  some : 0 < length k.statements
  room : All IsShallow k.statements

is_free : (k : Loop) → loop_fault k ≡ None → IsFree k
is_free k none =
    let a = none_else (reads_assigned k.statements) ReadsAssigned _ none in
    let b = none_else (length k.statements == 0) NoStatement _ a.1 in
    let c = none_else (list_any is_deep k.statements) TooDeep _ b.1 in
    let d = none_else (has_far k) TooFar _ c.1 in
    let e = or_parts (is_far k.lo || is_far k.hi) (list_any (λ (r : Reference). is_far r.offset) (references k.statements)) d.0 in
    let f = or_parts (is_far k.lo) (is_far k.hi) e.0 in
    record {
      lo = near_long k.lo f.0;
      hi = near_long k.hi f.1;
      some = some_statement (length k.statements) b.0;
      room = All-weaker (λ (a : Assign). is_deep a ≡ false) IsShallow shallow k.statements (none_passes is_deep k.statements c.0);
    }

accepted_is : (line : ℕ) (k : Loop) → loop_fault k ≡ None → accepted_loop line k ≡ Ok k
unfolding accepted_loop
accepted_is line k none = ap (judged_loop line k) none

-- ## The loop

body_read : (names : Names) (line : ℕ) (statements : List Assign) (behind : List ℕ) → AreApart names
    → All (λ (a : Assign). IsSayableAssign names a) statements → All IsShallow statements → 0 < length statements
    → body_at names (at_line line (32 ∷ 123 ∷ spelled_assigns names statements (32 ∷ 125 ∷ behind))) ≡ Ok (statements, at_line line behind)
unfolding body_at
body_read names line statements behind are said room some =
    let on : List ℕ = spelled_assigns names statements (32 ∷ 125 ∷ behind) in
    rw (
      opening_brace line on,
      all_give (assign_turn names) [] (at_line line on) _ (assigns_read names are line behind statements [] said room (omega arith)),
    ) refl

pub loop_is_read_again : LoopIsReadAgain
unfolding loop_at exactly spelled_loop
loop_is_read_again names k line behind are said =
    let free = is_free k said.1 in
    let body_on : List ℕ = 32 ∷ 123 ∷ spelled_assigns names k.statements (32 ∷ 125 ∷ behind) in
    let header_on : List ℕ = 40 ∷ (names.index ++ 32 ∷ 61 ∷ 32 ∷ (value_text k.lo ++ 59
    ∷ 32 ∷ (names.index ++ 32 ∷ 60 ∷ 32 ∷ (value_text k.hi ++ 59 ∷ 32 ∷ (names.index ++ 43 ∷ 43 ∷ 41 ∷ body_on))))) in
    rw (
      for_token line header_on,
      header_read names line k.lo k.hi body_on are free.lo free.hi,
      body_read names line k.statements behind are said.0 free.room free.some,
      accepted_is line k said.1,
    ) refl
