-- Queues and clauses that are spelled are read as those queues and clauses.
use Rattle.std.proofs.Common.{◌≡◌, ℕ, suc, ◌+◌, ◌^◌, ◌<◌, ◌≤◌, Bool, true, false, List, [], ◌∷◌, ◌++◌, length, Ok, refl, ◌∙◌, arith, append_assoc, length-append}
use Rattle.std.specs.Prelude.{Some, ◌==◌, ◌||◌, not, bytes_eq, codes, All, slice_index_or, ℤ, pos, negsuc}
use Rattle.std.specs.List.{prefix_len, list_all}
use Rattle.std.specs.Fmt.{decimal}
use Rattle.std.proofs.lemmas.Bool.{and_parts, false≢true, lt-leb, le-ltb, ne_eqb}
use Rattle.std.proofs.lemmas.List.{append-nil}
use Rattle.std.proofs.lemmas.List.Elements.{All-tail}
use Rattle.acc_base.specs.declared.range.Range.{Range}
use Rattle.acc_place.specs.declared.directive.Clause.{Clause}
use Rattle.acc_place.specs.declared.directive.Clause.TheVariants.{Copy, Copyin, Copyout, Create, Present, NoCreate, Delete, UpdateSelf, UpdateDevice}
use Rattle.acc_place.specs.declared.directive.DataItem.{DataItem}
use Rattle.acc_place.specs.declared.directive.Target.{Target}
use Rattle.acc_place.specs.declared.directive.Target.TheVariants.{Plain, Unvalued, Value}
use Rattle.acc_place.specs.declared.directive.Waits.{Waits}
use Rattle.acc_place.specs.declared.directive.Waits.TheVariants as waits
use Rattle.acc_script.specs.declared.head.Head.{Head}
use Rattle.acc_script.specs.declared.head.Head.TheVariants as head
use Rattle.acc_script.specs.declared.clause.Clauses.{Clauses}
use Rattle.acc_script.specs.declared.queue.TheConstants.{MAX_QUEUES}
use Rattle.acc_script.specs.declared.range.TheConstants.{MAX_INDEX, MAX_RANGES}
use Rattle.acc_token.specs.Tokens.{Spot, Lexeme, front, is_letter, is_digit, gap_at, token_len, token_at, exactly, expect, number_of}
use Rattle.acc_token.specs.Turns.{Turn, turn, all_turns}
use Rattle.acc_script.specs.Arrays.{Declared, size_of}
use Rattle.acc_script.specs.Ranges.{item, range_behind, item_behind, item_turn}
use Rattle.acc_script.specs.Queues.{queue_of, queue_behind, queues_turn, waits_at}
use Rattle.acc_script.specs.Clauses.{allows, is_flag, may_have_async, may_wait, is_plain, waits_for_nothing, is_complete, data_clause, target_at, ranges_at, clause_of, ends_line, clause_turn, no_clauses}
use Rattle.test_grammar.specs.RangeSpellings.{AreNames, spelled}
use Rattle.test_grammar.specs.ActSpellings.{more_queues, spelled_queues, word_of, spelled_items, spelled_waits, spelled_target, spelled_flag, spelled_clauses, IsSayableRange, AreSayable, IsSayableTarget}
use Rattle.test_grammar.proofs.RangeSpelling.{array_named, bounds_here}
use Rattle.acc_token.proofs.TokenSpelling.{IsNumber, is_number, digit_bounds, not_second, number_token, word_token, opening_bracket}
use Rattle.test_grammar.proofs.ListSpelling.{one_turn, last_turn}
use Rattle.test_grammar.specs.ValueSpellings.{IsSigned, value_text}

abbrev pub at_line : ℕ → List ℕ → Spot
at_line line bytes = record { line = line; bytes = bytes }

abbrev pub lex : List ℕ → ℕ → List ℕ → Lexeme
lex text line bytes = record { text = text; line = line; after = at_line line bytes }

-- ## Signs

pub opens : (in_directive : Bool) (line : ℕ) (rest : List ℕ) → token_at in_directive (at_line line (40 ∷ rest)) ≡ Ok (lex (codes "(") line rest)
unfolding token_at gap_at token_len
opens in_directive line rest = rw (not_second (front rest == 61)) refl

pub closes : (in_directive : Bool) (line : ℕ) (rest : List ℕ) → token_at in_directive (at_line line (41 ∷ rest)) ≡ Ok (lex (codes ")") line rest)
unfolding token_at gap_at token_len
closes in_directive line rest = rw (not_second (front rest == 61)) refl

comma : (in_directive : Bool) (line : ℕ) (rest : List ℕ) → token_at in_directive (at_line line (44 ∷ rest)) ≡ Ok (lex (codes ",") line rest)
unfolding token_at gap_at token_len
comma in_directive line rest = rw (not_second (front rest == 61)) refl

pub minus : (in_directive : Bool) (line : ℕ) (rest : List ℕ) → token_at in_directive (at_line line (45 ∷ rest)) ≡ Ok (lex (codes "-") line rest)
unfolding token_at gap_at token_len
minus in_directive line rest = rw (not_second (front rest == 61)) refl

pub closes_cell : (in_directive : Bool) (line : ℕ) (rest : List ℕ) → token_at in_directive (at_line line (93 ∷ rest)) ≡ Ok (lex (codes "]") line rest)
unfolding token_at gap_at token_len
closes_cell in_directive line rest = rw (not_second (front rest == 61)) refl

-- a space is skipped
pub behind_space : (in_directive : Bool) (line : ℕ) (rest : List ℕ) → token_at in_directive (at_line line (32 ∷ rest)) ≡ token_at in_directive (at_line line rest)
unfolding token_at gap_at
behind_space in_directive line rest = refl

-- ## Queues

fits : (n : ℕ) → n ≤ 9223372036854775807 → n < 2 ^ 64
fits n small = omega arith

-- a queue with its first token
pub record IsQueueHere (in_directive : Bool) (value : ℤ) (at after : Spot) : Type 0 where
  pub token : Lexeme
  pub first : token_at in_directive at ≡ Ok token
  pub queue : queue_of in_directive token ≡ Ok (value, after)

-- a queue, before a byte that ends it
pub queue_here : (in_directive : Bool) (line : ℕ) (value : ℤ) (rest : List ℕ) → IsSigned value → prefix_len is_digit rest ≡ 0 → is_letter (front rest) ≡ false
    → IsQueueHere in_directive value (at_line line (value_text value ++ rest)) (at_line line rest)
unfolding queue_of number_of
queue_here in_directive line (pos n) rest small ends apart = by (decimal n) (is_number n (fits n small))
  where
    by : (ds : List ℕ) → IsNumber n ds → IsQueueHere in_directive (pos n) (at_line line (ds ++ rest)) (at_line line rest)
    by ds is =
        let bounds = digit_bounds is.first is.digit in
        record {
          token = lex ds line rest;
          first = number_token in_directive line n ds rest is ends apart;
          queue = rw (
            is.is,
            ne_eqb is.first 45 (λ e. omega (arith, bounds.0)),
            ne_eqb is.first 97 (λ e. omega (arith, bounds.1)),
            is.digit,
            is.value,
            le-ltb 9223372036854775807 n small,
          ) refl;
        }
queue_here in_directive line (negsuc n) rest small ends apart = by (decimal (suc n)) (is_number (suc n) (fits (suc n) small))
  where
    by : (ds : List ℕ) → IsNumber (suc n) ds → IsQueueHere in_directive (negsuc n) (at_line line (45 ∷ (ds ++ rest))) (at_line line rest)
    by ds is =
        record {
          token = lex (codes "-") line (ds ++ rest);
          first = minus in_directive line (ds ++ rest);
          queue = rw (
            number_token in_directive line (suc n) ds rest is ends apart,
            is.is,
            is.digit,
            is.value,
            le-ltb 9223372036854775807 (suc n) small,
          ) refl;
        }

-- a queue of a list, with a comma or the ) behind it
queue_goes_on : (line : ℕ) (value : ℤ) (so_far : List ℤ) (rest : List ℕ) → IsSigned value → length so_far < MAX_QUEUES
    → queues_turn so_far (at_line line (value_text value ++ 44 ∷ rest)) ≡ Ok (turn true (so_far ++ value ∷ []) (at_line line rest))
unfolding queues_turn queue_behind
queue_goes_on line value so_far rest is few =
    let here = queue_here true line value (44 ∷ rest) is refl refl in
    rw (here.first, lt-leb MAX_QUEUES (length so_far) few, here.queue, comma true line rest) refl

queue_ends : (line : ℕ) (value : ℤ) (so_far : List ℤ) (rest : List ℕ) → IsSigned value → length so_far < MAX_QUEUES
    → queues_turn so_far (at_line line (value_text value ++ 41 ∷ rest)) ≡ Ok (turn false (so_far ++ value ∷ []) (at_line line rest))
unfolding queues_turn queue_behind exactly
queue_ends line value so_far rest is few =
    let here = queue_here true line value (41 ∷ rest) is refl refl in
    rw (here.first, lt-leb MAX_QUEUES (length so_far) few, here.queue, closes true line rest) refl

-- the queues of a list that are left
queues_behind : (line : ℕ) (value : ℤ) (values so_far : List ℤ) (rest : List ℕ) → IsSigned value → All IsSigned values → length so_far + length values < MAX_QUEUES
    → all_turns queues_turn so_far (at_line line (value_text value ++ more_queues values (41 ∷ rest))) ≡ Ok (turn false (so_far ++ value ∷ values) (at_line line rest))
unfolding more_queues
queues_behind line value [] so_far rest is all few =
    last_turn queues_turn so_far (so_far ++ value ∷ []) (at_line line (value_text value ++ 41 ∷ rest)) (at_line line rest) (queue_ends line value so_far rest is (omega arith))
queues_behind line value (next ∷ values) so_far rest is all few =
    let behind : List ℕ = value_text next ++ more_queues values (41 ∷ rest) in
    let more = queues_behind line next values (so_far ++ value ∷ []) rest (all 0 next (omega arith)) (All-tail IsSigned next values all) (omega (arith, length-append so_far (value ∷ []))) in
    one_turn queues_turn so_far (so_far ++ value ∷ []) (at_line line (value_text value ++ 44 ∷ behind)) (at_line line behind) (turn false (so_far ++ value ∷ next ∷ values) (at_line line rest))
    (queue_goes_on line value so_far behind is (omega arith)) (omega (arith, length-append (value_text value) (44 ∷ behind)))
    (rw append_assoc at more)

queues_here : (line : ℕ) (values : List ℤ) (rest : List ℕ) → 1 ≤ length values → length values ≤ MAX_QUEUES → All IsSigned values
    → all_turns queues_turn [] (at_line line (spelled_queues values (41 ∷ rest))) ≡ Ok (turn false values (at_line line rest))
unfolding spelled_queues
queues_here line [] rest some few all = absurd (omega arith)
queues_here line (value ∷ values) rest some few all =
    queues_behind line value values [] rest (all 0 value (omega arith)) (All-tail IsSigned value values all) (omega arith)

more_long : (values : List ℤ) (rest : List ℕ) → length rest ≤ length (more_queues values rest)
unfolding more_queues
more_long [] rest = omega arith
more_long (value ∷ values) rest = omega (arith, length-append (value_text value) (more_queues values rest), more_long values rest)

pub queues_long : (values : List ℤ) (rest : List ℕ) → length rest ≤ length (spelled_queues values rest)
unfolding spelled_queues
queues_long [] rest = omega arith
queues_long (value ∷ values) rest = omega (arith, length-append (value_text value) (more_queues values rest), more_long values rest)

-- listed queues behind `wait`
pub waits_listed : (line : ℕ) (values : List ℤ) (rest : List ℕ) → 1 ≤ length values → length values ≤ MAX_QUEUES → All IsSigned values
    → waits_at (at_line line (40 ∷ spelled_queues values (41 ∷ rest))) ≡ Ok (waits.Listed values, at_line line rest)
unfolding waits_at
waits_listed line values rest some few all = rw (opens true line (spelled_queues values (41 ∷ rest)), queues_here line values rest some few all) refl

-- what begins with no parenthesis
pub record IsApart (rest : List ℕ) : Type 0 where
  pub text : List ℕ
  pub after : ℕ → Spot
  pub token : (line : ℕ) → token_at true (at_line line rest) ≡ Ok (record { text = text; line = line; after = after line })
  pub other : bytes_eq text (codes "(") ≡ false

-- no queues behind `wait`
pub waits_all : (line : ℕ) (rest : List ℕ) → IsApart rest → waits_at (at_line line (32 ∷ rest)) ≡ Ok (waits.All, at_line line (32 ∷ rest))
unfolding waits_at
waits_all line rest apart = rw (behind_space true line rest, apart.token line, apart.other) refl

-- the line feed that ends a directive
line_feed : (line : ℕ) (rest : List ℕ) → token_at true (at_line line (10 ∷ rest)) ≡ Ok (record { text = codes "\n"; line = line; after = at_line (line + 1) rest })
unfolding token_at gap_at token_len
line_feed line rest = rw (not_second (front rest == 61)) refl

pub apart_line : (rest : List ℕ) → IsApart (10 ∷ rest)
apart_line rest = record { text = codes "\n"; after = λ line. at_line (line + 1) rest; token = λ line. line_feed line rest; other = refl }

pub apart_flag : (h : Head) (flagged : Bool) (rest : List ℕ) → IsApart (spelled_flag h flagged (10 ∷ rest))
unfolding token_at gap_at token_len
apart_flag head.ExitData true rest = record { text = codes "finalize"; after = λ line. at_line line (32 ∷ 10 ∷ rest); token = λ line. refl; other = refl }
apart_flag head.Update true rest = record { text = codes "if_present"; after = λ line. at_line line (32 ∷ 10 ∷ rest); token = λ line. refl; other = refl }
apart_flag h flagged rest = apart_line rest

pub apart_target : (target : Target) (rest : List ℕ) → IsApart rest → IsApart (spelled_target target rest)
unfolding token_at gap_at token_len
apart_target Plain rest apart = apart
apart_target Unvalued rest apart = record { text = codes "async"; after = λ line. at_line line (32 ∷ rest); token = λ line. refl; other = refl }
apart_target (Value value) rest apart = record { text = codes "async"; after = λ line. at_line line (40 ∷ (value_text value ++ 41 ∷ 32 ∷ rest)); token = λ line. refl; other = refl }

-- ## Ranges

-- a range with its brackets, behind the array's name
abbrev pub brackets : Range → List ℕ → List ℕ
brackets r rest = 91 ∷ (decimal r.lo ++ 58 ∷ (decimal r.len ++ 93 ∷ rest))

pub range_text : (names : List (List ℕ)) (r : Range) (rest : List ℕ) → spelled names r ++ rest ≡ slice_index_or names r.array [] ++ brackets r rest
unfolding spelled
range_text names r rest =
    rw (
      append_assoc (slice_index_or names r.array []) (codes "[" ++ (decimal r.lo ++ (codes ":" ++ (decimal r.len ++ codes "]")))) rest,
      append_assoc (decimal r.lo) (codes ":" ++ (decimal r.len ++ codes "]")) rest,
      append_assoc (decimal r.len) (codes "]") rest,
    ) refl

pub range_behind_here : (in_directive : Bool) (r : Range) (size line : ℕ) (rest : List ℕ) → r.lo ≤ MAX_INDEX → r.len ≤ MAX_INDEX
    → range_behind in_directive r.array size (at_line line (brackets r rest)) ≡ Ok (r, at_line line rest)
unfolding range_behind
range_behind_here in_directive r size line rest lo len =
    rw (opening_bracket in_directive line (decimal r.lo ++ 58 ∷ (decimal r.len ++ 93 ∷ rest)), bounds_here in_directive r.array size line r.lo r.len rest lo len) refl

-- a range of a clause, with the ) behind it
item_here : (arrays : Declared) (clause : Clause) (items : List DataItem) (line : ℕ) (r : Range) (rest : List ℕ)
    → AreNames arrays.names → IsSayableRange arrays.names r → length items < MAX_RANGES
    → item_turn arrays clause items (at_line line (spelled arrays.names r ++ 41 ∷ rest)) ≡ Ok (turn false (items ++ item clause r ∷ []) (at_line line rest))
unfolding item_turn item_behind exactly
item_here arrays clause items line r rest names said few =
    let is = names.each r.array [] said.array in
    rw (
      range_text arrays.names r (41 ∷ rest),
      word_token true line (slice_index_or arrays.names r.array []) (brackets r (41 ∷ rest)) is.first is.word refl,
      array_named arrays r.array line (at_line line (brackets r (41 ∷ rest))) names said.array,
      lt-leb MAX_RANGES (length items) few,
      range_behind_here true r (size_of arrays r.array) line (41 ∷ rest) said.lo said.len,
      closes true line rest,
    ) refl

ranges_here : (arrays : Declared) (clause : Clause) (c : Clauses) (line : ℕ) (r : Range) (rest : List ℕ)
    → AreNames arrays.names → IsSayableRange arrays.names r → length c.items < MAX_RANGES
    → ranges_at arrays clause c (at_line line (40 ∷ (spelled arrays.names r ++ 41 ∷ rest))) ≡ Ok (record c { items = c.items ++ item clause r ∷ [] }, at_line line rest)
unfolding ranges_at expect exactly
ranges_here arrays clause c line r rest names said few =
    rw (
      opens true line (spelled arrays.names r ++ 41 ∷ rest),
      last_turn (item_turn arrays clause) c.items (c.items ++ item clause r ∷ []) (at_line line (spelled arrays.names r ++ 41 ∷ rest)) (at_line line rest)
          (item_here arrays clause c.items line r rest names said few),
    ) refl

-- ## Clauses

abbrev clauses : List DataItem → Target → Waits → Bool → Clauses
clauses items target w flagged = record { items = items; target = target; waits = w; flagged = flagged }

turn_of_clause : (arrays : Declared) (h : Head) (c more : Clauses) (at after : Spot) (t : Lexeme) → token_at true at ≡ Ok t
    → ends_line t.text ≡ false → bytes_eq t.text (codes ",") ≡ false → clause_of arrays h c t ≡ Ok (more, after)
    → clause_turn arrays h c at ≡ Ok (turn true more after)
unfolding clause_turn
turn_of_clause arrays h c more at after t found no_end no_comma read = rw (found, no_end, no_comma, read) refl

-- the word of a data clause
clause_token : (clause : Clause) (line : ℕ) (rest : List ℕ) → token_at true (at_line line (32 ∷ (word_of clause ++ 40 ∷ rest))) ≡ Ok (lex (word_of clause) line (40 ∷ rest))
unfolding token_at gap_at token_len
clause_token Copy line rest = refl
clause_token Copyin line rest = refl
clause_token Copyout line rest = refl
clause_token Create line rest = refl
clause_token Present line rest = refl
clause_token NoCreate line rest = refl
clause_token Delete line rest = refl
clause_token UpdateSelf line rest = refl
clause_token UpdateDevice line rest = refl

no_end : (clause : Clause) → ends_line (word_of clause) ≡ false
no_end Copy = refl
no_end Copyin = refl
no_end Copyout = refl
no_end Create = refl
no_end Present = refl
no_end NoCreate = refl
no_end Delete = refl
no_end UpdateSelf = refl
no_end UpdateDevice = refl

no_comma : (clause : Clause) → bytes_eq (word_of clause) (codes ",") ≡ false
no_comma Copy = refl
no_comma Copyin = refl
no_comma Copyout = refl
no_comma Create = refl
no_comma Present = refl
no_comma NoCreate = refl
no_comma Delete = refl
no_comma UpdateSelf = refl
no_comma UpdateDevice = refl

no_finalize : (clause : Clause) → bytes_eq (word_of clause) (codes "finalize") ≡ false
no_finalize Copy = refl
no_finalize Copyin = refl
no_finalize Copyout = refl
no_finalize Create = refl
no_finalize Present = refl
no_finalize NoCreate = refl
no_finalize Delete = refl
no_finalize UpdateSelf = refl
no_finalize UpdateDevice = refl

no_if_present : (clause : Clause) → bytes_eq (word_of clause) (codes "if_present") ≡ false
no_if_present Copy = refl
no_if_present Copyin = refl
no_if_present Copyout = refl
no_if_present Create = refl
no_if_present Present = refl
no_if_present NoCreate = refl
no_if_present Delete = refl
no_if_present UpdateSelf = refl
no_if_present UpdateDevice = refl

no_flag : (h : Head) (clause : Clause) → is_flag h (word_of clause) ≡ false
no_flag head.EnterData clause = refl
no_flag head.ExitData clause = no_finalize clause
no_flag head.Update clause = no_if_present clause
no_flag head.Wait clause = refl
no_flag head.Data clause = refl
no_flag head.Loop clause = refl

-- the word names its data clause
named : (arrays : Declared) (h : Head) (c : Clauses) (line : ℕ) (after : Spot) (clause : Clause)
    → clause_of arrays h c (record { text = word_of clause; line = line; after = after }) ≡ data_clause arrays h c (record { text = word_of clause; line = line; after = after }) (Some clause)
unfolding clause_of
named arrays h c line after Copy = rw (no_flag h Copy) refl
named arrays h c line after Copyin = rw (no_flag h Copyin) refl
named arrays h c line after Copyout = rw (no_flag h Copyout) refl
named arrays h c line after Create = rw (no_flag h Create) refl
named arrays h c line after Present = rw (no_flag h Present) refl
named arrays h c line after NoCreate = rw (no_flag h NoCreate) refl
named arrays h c line after Delete = rw (no_flag h Delete) refl
named arrays h c line after UpdateSelf = rw (no_flag h UpdateSelf) refl
named arrays h c line after UpdateDevice = rw (no_flag h UpdateDevice) refl

-- a data clause
item_turn_here : (arrays : Declared) (h : Head) (c : Clauses) (line : ℕ) (i : DataItem) (rest : List ℕ)
    → AreNames arrays.names → IsSayableRange arrays.names i.range → length c.items < MAX_RANGES → allows h i.clause ≡ true
    → clause_turn arrays h c (at_line line (32 ∷ (word_of i.clause ++ 40 ∷ (spelled arrays.names i.range ++ 41 ∷ rest)))) ≡ Ok (turn true (record c { items = c.items ++ i ∷ [] }) (at_line line rest))
item_turn_here arrays h c line i rest names said few allowed =
    let text : List ℕ = spelled arrays.names i.range ++ 41 ∷ rest in
    let clause : clause_of arrays h c (lex (word_of i.clause) line (40 ∷ text)) ≡ Ok (record c { items = c.items ++ i ∷ [] }, at_line line rest) =
    named arrays h c line (at_line line (40 ∷ text)) i.clause ∙ rw allowed (ranges_here arrays i.clause c line i.range rest names said few) in
    turn_of_clause arrays h c (record c { items = c.items ++ i ∷ [] }) (at_line line (32 ∷ (word_of i.clause ++ 40 ∷ text))) (at_line line rest) (lex (word_of i.clause) line (40 ∷ text))
    (clause_token i.clause line text) (no_end i.clause) (no_comma i.clause) clause

-- the data clauses that are left, and what is read behind them
items_behind : (arrays : Declared) (h : Head) (items so_far : List DataItem) (target : Target) (w : Waits) (flagged : Bool) (line : ℕ) (rest : List ℕ) (total : Turn Clauses)
    → AreNames arrays.names → All (λ (i : DataItem). IsSayableRange arrays.names i.range) items → list_all (λ (i : DataItem). allows h i.clause) items ≡ true → length so_far + length items ≤ MAX_RANGES
    → all_turns (clause_turn arrays h) (clauses (so_far ++ items) target w flagged) (at_line line (32 ∷ rest)) ≡ Ok total
    → all_turns (clause_turn arrays h) (clauses so_far target w flagged) (at_line line (32 ∷ spelled_items arrays.names items rest)) ≡ Ok total
unfolding spelled_items
items_behind arrays h [] so_far target w flagged line rest total names said allowed few read = rw (append-nil so_far) at read
items_behind arrays h (i ∷ items) so_far target w flagged line rest total names said allowed few read =
    let P : DataItem → Type 0 = λ (i : DataItem). IsSayableRange arrays.names i.range in
    let behind : List ℕ = 32 ∷ spelled_items arrays.names items rest in
    let allow = and_parts (allows h i.clause) (list_all (λ (i : DataItem). allows h i.clause) items) allowed in
    let read' : all_turns (clause_turn arrays h) (clauses ((so_far ++ i ∷ []) ++ items) target w flagged) (at_line line (32 ∷ rest)) ≡ Ok total = rw (append_assoc so_far (i ∷ []) items) read in
    let more = items_behind arrays h items (so_far ++ i ∷ []) target w flagged line rest total names (All-tail P i items said) allow.1 (omega (arith, length-append so_far (i ∷ []))) read' in
    one_turn (clause_turn arrays h) (clauses so_far target w flagged) (clauses (so_far ++ i ∷ []) target w flagged)
    (at_line line (32 ∷ (word_of i.clause ++ 40 ∷ (spelled arrays.names i.range ++ 41 ∷ behind)))) (at_line line behind) total
    (item_turn_here arrays h (clauses so_far target w flagged) line i behind names (said 0 i (omega arith)) (omega arith) allow.0)
    (omega (arith, length-append (word_of i.clause) (40 ∷ (spelled arrays.names i.range ++ 41 ∷ behind)), length-append (spelled arrays.names i.range) (41 ∷ behind))) more

-- ## The other clauses

wait_token : (line : ℕ) (rest : List ℕ) → token_at true (at_line line (32 ∷ (codes "wait" ++ 32 ∷ rest))) ≡ Ok (lex (codes "wait") line (32 ∷ rest))
unfolding token_at gap_at token_len
wait_token line rest = refl

wait_list_token : (line : ℕ) (rest : List ℕ) → token_at true (at_line line (32 ∷ (codes "wait" ++ 40 ∷ rest))) ≡ Ok (lex (codes "wait") line (40 ∷ rest))
unfolding token_at gap_at token_len
wait_list_token line rest = refl

async_token : (line : ℕ) (rest : List ℕ) → token_at true (at_line line (32 ∷ (codes "async" ++ 32 ∷ rest))) ≡ Ok (lex (codes "async") line (32 ∷ rest))
unfolding token_at gap_at token_len
async_token line rest = refl

async_value_token : (line : ℕ) (rest : List ℕ) → token_at true (at_line line (32 ∷ (codes "async" ++ 40 ∷ rest))) ≡ Ok (lex (codes "async") line (40 ∷ rest))
unfolding token_at gap_at token_len
async_value_token line rest = refl

wait_clause : (arrays : Declared) (h : Head) (c : Clauses) (line : ℕ) (w : Waits) (at after : Spot) → may_wait h ≡ true → waits_for_nothing c.waits ≡ true → waits_at at ≡ Ok (w, after)
    → clause_of arrays h c (record { text = codes "wait"; line = line; after = at }) ≡ Ok (record c { waits = w }, after)
unfolding clause_of
wait_clause arrays h c line w at after may none read = rw (may, none, read) refl

async_clause : (arrays : Declared) (h : Head) (c : Clauses) (line : ℕ) (target : Target) (at after : Spot) → may_have_async h ≡ true → is_plain c.target ≡ true → target_at at ≡ Ok (target, after)
    → clause_of arrays h c (record { text = codes "async"; line = line; after = at }) ≡ Ok (record c { target = target }, after)
unfolding clause_of
async_clause arrays h c line target at after may none read = rw (may, none, read) refl

-- `async` without a queue, and with one
target_alone : (line : ℕ) (rest : List ℕ) → IsApart rest → target_at (at_line line (32 ∷ rest)) ≡ Ok (Unvalued, at_line line (32 ∷ rest))
unfolding target_at
target_alone line rest apart = rw (behind_space true line rest, apart.token line, apart.other) refl

target_valued : (line : ℕ) (value : ℤ) (rest : List ℕ) → IsSigned value → target_at (at_line line (40 ∷ (value_text value ++ 41 ∷ rest))) ≡ Ok (Value value, at_line line rest)
unfolding target_at expect exactly
target_valued line value rest is =
    let here = queue_here true line value (41 ∷ rest) is refl refl in
    rw (opens true line (value_text value ++ 41 ∷ rest), here.first, here.queue, closes true line rest) refl

module _ (arrays : Declared) (h : Head) (items : List DataItem) (flagged : Bool) (line : ℕ) (total : Turn Clauses) where
  -- what is read from these clauses on
  abbrev Reads : Target → Waits → List ℕ → Type 0
  Reads target w rest = all_turns (clause_turn arrays h) (clauses items target w flagged) (at_line line rest) ≡ Ok total

  waits_behind : (w : Waits) (rest : List ℕ) → (waits_for_nothing w || may_wait h) ≡ true → AreSayable w → IsApart rest
      → Reads Plain w (32 ∷ rest) → Reads Plain waits.Nothing (32 ∷ spelled_waits w rest)
  waits_behind waits.Nothing rest may said apart read = read
  waits_behind waits.All rest may said apart read =
      let c : Clauses = clauses items Plain waits.Nothing flagged in
      let more : Clauses = clauses items Plain waits.All flagged in
      let text : List ℕ = 32 ∷ (codes "wait" ++ 32 ∷ rest) in
      one_turn (clause_turn arrays h) c more (at_line line text) (at_line line (32 ∷ rest)) total
      (turn_of_clause arrays h c more (at_line line text) (at_line line (32 ∷ rest)) (lex (codes "wait") line (32 ∷ rest)) (wait_token line rest) refl refl
      (wait_clause arrays h c line waits.All (at_line line (32 ∷ rest)) (at_line line (32 ∷ rest)) may refl (waits_all line rest apart))) (omega arith) read
  waits_behind (waits.Listed values) rest may said apart read =
      let c : Clauses = clauses items Plain waits.Nothing flagged in
      let more : Clauses = clauses items Plain (waits.Listed values) flagged in
      let list : List ℕ = spelled_queues values (41 ∷ 32 ∷ rest) in
      let text : List ℕ = 32 ∷ (codes "wait" ++ 40 ∷ list) in
      one_turn (clause_turn arrays h) c more (at_line line text) (at_line line (32 ∷ rest)) total
      (turn_of_clause arrays h c more (at_line line text) (at_line line (32 ∷ rest)) (lex (codes "wait") line (40 ∷ list)) (wait_list_token line list) refl refl
      (wait_clause arrays h c line (waits.Listed values) (at_line line (40 ∷ list)) (at_line line (32 ∷ rest)) may refl (waits_listed line values (32 ∷ rest) said.0 said.1 said.2)))
      (omega (arith, queues_long values (41 ∷ 32 ∷ rest))) read

  target_behind : (target : Target) (w : Waits) (rest : List ℕ) → (is_plain target || may_have_async h) ≡ true → IsSayableTarget target → IsApart rest
      → Reads target w (32 ∷ rest) → Reads Plain w (32 ∷ spelled_target target rest)
  target_behind Plain w rest may said apart read = read
  target_behind Unvalued w rest may said apart read =
      let c : Clauses = clauses items Plain w flagged in
      let more : Clauses = clauses items Unvalued w flagged in
      let text : List ℕ = 32 ∷ (codes "async" ++ 32 ∷ rest) in
      one_turn (clause_turn arrays h) c more (at_line line text) (at_line line (32 ∷ rest)) total
      (turn_of_clause arrays h c more (at_line line text) (at_line line (32 ∷ rest)) (lex (codes "async") line (32 ∷ rest)) (async_token line rest) refl refl
      (async_clause arrays h c line Unvalued (at_line line (32 ∷ rest)) (at_line line (32 ∷ rest)) may refl (target_alone line rest apart))) (omega arith) read
  target_behind (Value value) w rest may said apart read =
      let c : Clauses = clauses items Plain w flagged in
      let more : Clauses = clauses items (Value value) w flagged in
      let queue : List ℕ = value_text value ++ 41 ∷ 32 ∷ rest in
      let text : List ℕ = 32 ∷ (codes "async" ++ 40 ∷ queue) in
      one_turn (clause_turn arrays h) c more (at_line line text) (at_line line (32 ∷ rest)) total
      (turn_of_clause arrays h c more (at_line line text) (at_line line (32 ∷ rest)) (lex (codes "async") line (40 ∷ queue)) (async_value_token line queue) refl refl
      (async_clause arrays h c line (Value value) (at_line line (40 ∷ queue)) (at_line line (32 ∷ rest)) may refl (target_valued line value (32 ∷ rest) said)))
      (omega (arith, length-append (value_text value) (41 ∷ 32 ∷ rest))) read

-- the directives that can have a flag
abbrev pub can_flag : Head → Bool
can_flag head.ExitData = true
can_flag head.Update = true
can_flag h = false

finalize_here : (arrays : Declared) (items : List DataItem) (target : Target) (w : Waits) (line : ℕ) (rest : List ℕ)
    → clause_turn arrays head.ExitData (clauses items target w false) (at_line line (32 ∷ (codes "finalize" ++ 32 ∷ rest))) ≡ Ok (turn true (clauses items target w true) (at_line line (32 ∷ rest)))
unfolding clause_turn clause_of token_at gap_at token_len
finalize_here arrays items target w line rest = refl

if_present_here : (arrays : Declared) (items : List DataItem) (target : Target) (w : Waits) (line : ℕ) (rest : List ℕ)
    → clause_turn arrays head.Update (clauses items target w false) (at_line line (32 ∷ (codes "if_present" ++ 32 ∷ rest))) ≡ Ok (turn true (clauses items target w true) (at_line line (32 ∷ rest)))
unfolding clause_turn clause_of token_at gap_at token_len
if_present_here arrays items target w line rest = refl

flagged_behind : (arrays : Declared) (h : Head) (flagged : Bool) (items : List DataItem) (target : Target) (w : Waits) (line : ℕ) (rest : List ℕ) (total : Turn Clauses) → (not flagged || can_flag h) ≡ true
    → all_turns (clause_turn arrays h) (clauses items target w flagged) (at_line line (32 ∷ rest)) ≡ Ok total
    → all_turns (clause_turn arrays h) (clauses items target w false) (at_line line (32 ∷ spelled_flag h flagged rest)) ≡ Ok total
flagged_behind arrays head.ExitData true items target w line rest total may read =
    one_turn (clause_turn arrays head.ExitData) (clauses items target w false) (clauses items target w true)
    (at_line line (32 ∷ (codes "finalize" ++ 32 ∷ rest))) (at_line line (32 ∷ rest)) total (finalize_here arrays items target w line rest) (omega arith) read
flagged_behind arrays head.Update true items target w line rest total may read =
    one_turn (clause_turn arrays head.Update) (clauses items target w false) (clauses items target w true)
    (at_line line (32 ∷ (codes "if_present" ++ 32 ∷ rest))) (at_line line (32 ∷ rest)) total (if_present_here arrays items target w line rest) (omega arith) read
flagged_behind arrays head.ExitData false items target w line rest total may read = read
flagged_behind arrays head.Update false items target w line rest total may read = read
flagged_behind arrays head.EnterData false items target w line rest total may read = read
flagged_behind arrays head.Wait false items target w line rest total may read = read
flagged_behind arrays head.Data false items target w line rest total may read = read
flagged_behind arrays head.Loop false items target w line rest total may read = read
flagged_behind arrays head.EnterData true items target w line rest total may read = absurd (false≢true may)
flagged_behind arrays head.Wait true items target w line rest total may read = absurd (false≢true may)
flagged_behind arrays head.Data true items target w line rest total may read = absurd (false≢true may)
flagged_behind arrays head.Loop true items target w line rest total may read = absurd (false≢true may)

-- the end of the line
end_here : (arrays : Declared) (h : Head) (c : Clauses) (line : ℕ) (rest : List ℕ) → is_complete h c ≡ true
    → clause_turn arrays h c (at_line line (32 ∷ 10 ∷ rest)) ≡ Ok (turn false c (at_line (line + 1) rest))
unfolding clause_turn
end_here arrays h c line rest complete = rw (behind_space true line (10 ∷ rest), line_feed line rest, complete) refl

line_ends : (arrays : Declared) (h : Head) (c : Clauses) (line : ℕ) (rest : List ℕ) → is_complete h c ≡ true
    → all_turns (clause_turn arrays h) c (at_line line (32 ∷ 10 ∷ rest)) ≡ Ok (turn false c (at_line (line + 1) rest))
line_ends arrays h c line rest complete =
    last_turn (clause_turn arrays h) c c (at_line line (32 ∷ 10 ∷ rest)) (at_line (line + 1) rest) (end_here arrays h c line rest complete)

-- clauses that the directive can have
pub record CanHave (names : List (List ℕ)) (h : Head) (c : Clauses) : Type 0 where
  pub items : All (λ (i : DataItem). IsSayableRange names i.range) c.items
  pub allowed : list_all (λ (i : DataItem). allows h i.clause) c.items ≡ true
  pub few : length c.items ≤ MAX_RANGES
  pub complete : is_complete h c ≡ true
  pub async : (is_plain c.target || may_have_async h) ≡ true
  pub target : IsSayableTarget c.target
  pub wait : (waits_for_nothing c.waits || may_wait h) ≡ true
  pub queues : AreSayable c.waits
  pub flag : (not c.flagged || can_flag h) ≡ true

-- the clauses behind what a directive begins with
pub clauses_here : (arrays : Declared) (h : Head) (c : Clauses) (line : ℕ) (rest : List ℕ) → AreNames arrays.names → CanHave arrays.names h c
    → all_turns (clause_turn arrays h) (no_clauses waits.Nothing) (at_line line (32 ∷ spelled_clauses arrays.names h c rest)) ≡ Ok (turn false c (at_line (line + 1) rest))
unfolding spelled_clauses
clauses_here arrays h c line rest names can =
    let flag : List ℕ = spelled_flag h c.flagged (10 ∷ rest) in
    let target : List ℕ = spelled_target c.target flag in
    let total : Turn Clauses = turn false c (at_line (line + 1) rest) in
    items_behind arrays h c.items [] Plain waits.Nothing false line (spelled_waits c.waits target) total names can.items can.allowed (omega (arith, can.few))
    (waits_behind arrays h c.items false line total c.waits target can.wait can.queues (apart_target c.target flag (apart_flag h c.flagged rest))
    (target_behind arrays h c.items false line total c.target c.waits flag can.async can.target (apart_flag h c.flagged rest)
    (flagged_behind arrays h c.flagged c.items c.target c.waits line (10 ∷ rest) total can.flag (line_ends arrays h c line rest can.complete))))

pub or_true : (b : Bool) → (b || true) ≡ true
or_true true = refl
or_true false = refl

-- the clauses of a `wait`, behind its queues
pub async_here : (arrays : Declared) (w : Waits) (target : Target) (line : ℕ) (rest : List ℕ) → IsSayableTarget target
    → all_turns (clause_turn arrays head.Wait) (no_clauses w) (at_line line (32 ∷ spelled_target target (10 ∷ rest))) ≡ Ok (turn false (clauses [] target w false) (at_line (line + 1) rest))
async_here arrays w target line rest said =
    let c : Clauses = clauses [] target w false in
    target_behind arrays head.Wait [] false line (turn false c (at_line (line + 1) rest)) target w (10 ∷ rest) (or_true (is_plain target)) said (apart_line rest)
    (line_ends arrays head.Wait c line rest refl)
