-- Acts that are spelled are read as those acts.
use Rattle.std.proofs.Common.{◌≡◌, ℕ, ◌+◌, ◌<◌, ◌≤◌, Bool, true, false, List, [], ◌∷◌, ◌++◌, length, Ok, refl, sym, ap, subst, ◌∙◌, arith}
use Rattle.std.specs.Prelude.{◌==◌, ◌&&◌, ◌||◌, not, bytes_eq, codes, take, slice_index_or, ℤ, negsuc}
use Rattle.std.specs.List.{prefix_len, list_all, list_any}
use Rattle.std.specs.Fmt.{decimal}
use Rattle.std.proofs.lemmas.Bool.{and_parts, or_parts, false≢true, false_from_ne_true, lt-leb, le-ltb, ne_eqb}
use Rattle.std.proofs.lemmas.Slice.Eq.{bytes_eq-Decides}
use Rattle.acc_base.specs.declared.range.Range.{Range}
use Rattle.acc_place.specs.Clauses.{allows_clause, allows_items, allows_count, allows_target, allows_waits}
use Rattle.acc_kernel.specs.Kernels.{Loop}
use Rattle.acc_place.specs.Directives.{Directive}
use Rattle.acc_place.specs.declared.directive.Clause.{Clause}
use Rattle.acc_place.specs.declared.directive.Clause.TheVariants.{Copy, Copyin, Copyout, Create, Present, NoCreate, Delete, UpdateSelf, UpdateDevice}
use Rattle.acc_place.specs.declared.directive.DataItem.{DataItem}
use Rattle.acc_place.specs.declared.directive.Kind.{Kind}
use Rattle.acc_place.specs.declared.directive.Kind.TheVariants as kind
use Rattle.acc_place.specs.declared.directive.Target.{Target}
use Rattle.acc_place.specs.declared.directive.Target.TheVariants.{Plain, Unvalued, Value}
use Rattle.acc_place.specs.declared.directive.Waits.{Waits}
use Rattle.acc_place.specs.declared.directive.Waits.TheVariants as waits
use Rattle.acc_place.specs.declared.directive.Written.{Written}
use Rattle.acc_host.specs.declared.program.Act.{Act}
use Rattle.acc_host.specs.declared.program.Act.TheVariants.{Place, Write, Print, SetDevice, SetAsync, ShowDevice, ShowDevices}
use Rattle.acc_script.specs.declared.head.Head.{Head}
use Rattle.acc_script.specs.declared.head.Head.TheVariants as head
use Rattle.acc_script.specs.declared.clause.Clauses.{Clauses}
use Rattle.acc_script.specs.declared.directive.TheConstants.{MAX_CONSTRUCTS}
use Rattle.acc_script.specs.declared.range.TheConstants.{MAX_INDEX}
use Rattle.acc_token.specs.Tokens.{Spot, Lexeme, front, is_letter, is_digit, is_reserved, gap_at, token_len, token_at, exactly, expect, number_of}
use Rattle.acc_script.specs.Arrays.{Declared, size_of}
use Rattle.acc_script.specs.Ranges.{range_of}
use Rattle.acc_script.specs.Clauses.{is_plain, waits_for_nothing, needs_item, may_have_async, may_wait, allows}
use Rattle.acc_script.specs.Directives.{head_of, placed, placed_with, act_behind, directive_at}
use Rattle.acc_script.specs.Routines.{range_argument, queue_argument, number_argument, no_argument, other_call, call_of, question_of, shown_of, print_at}
use Rattle.acc_script.specs.Statements.{signed_number_at, cell_at, write_at, simple_of, act_of, depth_behind, depth_behind_kind, statement_turn}
use Rattle.test_grammar.specs.RangeSpellings as range
use Rattle.test_grammar.specs.RangeSpellings.{AreNames}
use Rattle.test_grammar.specs.ExpressionSpellings.{AreApart}
use Rattle.acc_script.specs.Expressions.{Names}
use Rattle.test_grammar.specs.LoopSpellings.{spelled_loop, IsSayableLoop}
use Rattle.test_grammar.specs.ActSpellings.{more_queues, spelled_queues, spelled_waits, spelled_target, spelled_items, spelled_clauses, spelled_line, clauses_of, spelled_kind, written_of, spelled, feeds_of, feeds_of_kind, IsSayableRange, AreSayable, IsSayableTarget, IsSayableWritten, IsSayable, ActIsReadAgain, StatementIsReadAgain}
use Rattle.test_grammar.proofs.RangeSpelling.{array_named, range_is_read_again}
use Rattle.test_grammar.proofs.LoopSpelling.{loop_is_read_again}
use Rattle.acc_token.proofs.TokenSpelling.{IsNumber, is_number, not_second, number_token, word_token, opening_bracket}
use Rattle.test_grammar.proofs.ClauseSpelling.{at_line, lex, opens, closes, closes_cell, behind_space, queue_here, waits_all, waits_listed, apart_line, apart_target, brackets, range_text, range_behind_here, can_flag, or_true, CanHave, clauses_here, async_here}
use Rattle.test_grammar.specs.ValueSpellings.{IsLong, IsSigned, value_text}
use Rattle.test_grammar.proofs.ValueSpelling.{value_here}

-- an act, with its first token
pub record IsReadHere (arrays : Declared) (depth line : ℕ) (text : List ℕ) (act : Act) (after : Spot) : Type 0 where
  pub token : Lexeme
  pub first : token_at false (at_line line text) ≡ Ok token
  pub place : token.line ≡ line
  pub other : bytes_eq token.text (codes "}") ≡ false
  pub read : act_of arrays depth token ≡ Ok (act, after)

-- ## Lines of directives

enter_line : (arrays : Declared) (depth : ℕ) (c : Clauses) (line : ℕ) (rest : List ℕ) → AreNames arrays.names → CanHave arrays.names head.EnterData c
    → directive_at arrays depth (at_line line (codes "pragma acc enter data " ++ spelled_clauses arrays.names head.EnterData c rest)) ≡ Ok (placed_with kind.EnterData c, at_line (line + 1) rest)
unfolding directive_at head_of act_behind token_at gap_at token_len expect exactly
enter_line arrays depth c line rest names can = rw (clauses_here arrays head.EnterData c line rest names can) refl

exit_line : (arrays : Declared) (depth : ℕ) (c : Clauses) (line : ℕ) (rest : List ℕ) → AreNames arrays.names → CanHave arrays.names head.ExitData c
    → directive_at arrays depth (at_line line (codes "pragma acc exit data " ++ spelled_clauses arrays.names head.ExitData c rest)) ≡ Ok (placed_with (kind.ExitData c.flagged) c, at_line (line + 1) rest)
unfolding directive_at head_of act_behind token_at gap_at token_len expect exactly
exit_line arrays depth c line rest names can = rw (clauses_here arrays head.ExitData c line rest names can) refl

update_line : (arrays : Declared) (depth : ℕ) (c : Clauses) (line : ℕ) (rest : List ℕ) → AreNames arrays.names → CanHave arrays.names head.Update c
    → directive_at arrays depth (at_line line (codes "pragma acc update " ++ spelled_clauses arrays.names head.Update c rest)) ≡ Ok (placed_with (kind.Update c.flagged) c, at_line (line + 1) rest)
unfolding directive_at head_of act_behind token_at gap_at token_len expect exactly
update_line arrays depth c line rest names can = rw (clauses_here arrays head.Update c line rest names can) refl

brace : (line : ℕ) (rest : List ℕ) → token_at false (at_line line (123 ∷ rest)) ≡ Ok (lex (codes "{") line rest)
unfolding token_at gap_at token_len
brace line rest = rw (not_second (front rest == 61)) refl

enters : (arrays : Declared) (c : Clauses) (line : ℕ) (rest : List ℕ) → act_behind arrays head.Data c (at_line line (123 ∷ rest)) ≡ Ok (placed_with kind.Data c, at_line line rest)
unfolding act_behind expect exactly
enters arrays c line rest = rw (brace line rest) refl

data_line : (arrays : Declared) (depth : ℕ) (c : Clauses) (line : ℕ) (rest : List ℕ) → AreNames arrays.names → CanHave arrays.names head.Data c → depth < MAX_CONSTRUCTS
    → directive_at arrays depth (at_line line (codes "pragma acc data " ++ spelled_clauses arrays.names head.Data c (123 ∷ rest))) ≡ Ok (placed_with kind.Data c, at_line (line + 1) rest)
unfolding directive_at head_of token_at gap_at token_len expect exactly
data_line arrays depth c line rest names can room =
    rw (lt-leb MAX_CONSTRUCTS depth room, clauses_here arrays head.Data c line (123 ∷ rest) names can, enters arrays c (line + 1) rest) refl

-- the line of a loop, before the loop
pub loop_line : (arrays : Declared) (depth : ℕ) (c : Clauses) (line : ℕ) (rest : List ℕ) → AreNames arrays.names → CanHave arrays.names head.Loop c
    → directive_at arrays depth (at_line line (codes "pragma acc parallel loop " ++ spelled_clauses arrays.names head.Loop c rest)) ≡ act_behind arrays head.Loop c (at_line (line + 1) rest)
unfolding directive_at head_of token_at gap_at token_len expect exactly
loop_line arrays depth c line rest names can = rw (clauses_here arrays head.Loop c line rest names can) refl

wait_line : (arrays : Declared) (depth : ℕ) (target : Target) (w : Waits) (line : ℕ) (rest : List ℕ) → waits_for_nothing w ≡ false → AreSayable w → IsSayableTarget target
    → directive_at arrays depth (at_line line (codes "pragma acc " ++ spelled_waits w (spelled_target target (10 ∷ rest)))) ≡ Ok (placed kind.Wait [] target w, at_line (line + 1) rest)
unfolding directive_at head_of act_behind token_at gap_at token_len expect exactly
wait_line arrays depth target waits.Nothing line rest some said valued = absurd (false≢true (sym some))
wait_line arrays depth target waits.All line rest some said valued =
    rw (waits_all line (spelled_target target (10 ∷ rest)) (apart_target target (10 ∷ rest) (apart_line rest)), async_here arrays waits.All target line rest valued) refl
wait_line arrays depth target (waits.Listed values) line rest some said valued =
    rw (waits_listed line values (32 ∷ spelled_target target (10 ∷ rest)) said.0 said.1 said.2, async_here arrays (waits.Listed values) target line rest valued) refl

hash : (line : ℕ) (rest : List ℕ) → token_at false (at_line line (codes "#pragma acc " ++ rest)) ≡ Ok (lex (codes "#") line (codes "pragma acc " ++ rest))
unfolding token_at gap_at token_len
hash line rest = refl

-- a directive behind its #
pub directive_here : (arrays : Declared) (depth line : ℕ) (rest : List ℕ) (act : Act) (after : Spot)
    → directive_at arrays depth (at_line line (codes "pragma acc " ++ rest)) ≡ Ok (act, after)
    → IsReadHere arrays depth line (codes "#pragma acc " ++ rest) act after
unfolding act_of
directive_here arrays depth line rest act after is = record {
  token = lex (codes "#") line (codes "pragma acc " ++ rest);
  first = hash line rest;
  place = refl;
  other = refl;
  read = is;
}

-- ## What is well-formed can be read

four_parts : (i c t w : Bool) → (i && c && t && w) ≡ true → (i ≡ true) × (c ≡ true) × (t ≡ true) × (w ≡ true)
four_parts i c t w all =
    let last = and_parts (i && c && t) w all in
    let third = and_parts (i && c) t last.0 in
    let first = and_parts i c third.0 in
    (first.0, first.1, third.1, last.1)

abbrev written : Kind → List DataItem → Target → Waits → Written
written k items target w = record { kind = k; items = items; target = target; waits = w }

form_of : (n : Names) (k : Kind) (items : List DataItem) (target : Target) (w : Waits) → IsSayableWritten n (written k items target w)
    → (allows_items k items ≡ true) × (allows_count k (length items) ≡ true) × (allows_target k target ≡ true) × (allows_waits k w ≡ true)
form_of n k items target w said = four_parts (allows_items k items) (allows_count k (length items)) (allows_target k target) (allows_waits k w) said.form

some_items : (items : List DataItem) → allows_count kind.Data (length items) ≡ true → (length items == 0) ≡ false
some_items [] some = absurd (false≢true some)
some_items (i ∷ items) some = ne_eqb (length (i ∷ items)) 0 (λ e. omega arith)

no_target : (target : Target) → allows_target kind.Data target ≡ true → target ≡ Plain
no_target Plain may = refl
no_target Unvalued may = absurd (false≢true may)
no_target (Value value) may = absurd (false≢true may)

no_waits : (w : Waits) → allows_waits kind.Data w ≡ true → w ≡ waits.Nothing
no_waits waits.Nothing may = refl
no_waits waits.All may = absurd (false≢true may)
no_waits (waits.Listed values) may = absurd (false≢true may)

some_waits : (w : Waits) → allows_waits kind.Wait w ≡ true → waits_for_nothing w ≡ false
some_waits waits.Nothing may = absurd (false≢true may)
some_waits waits.All may = refl
some_waits (waits.Listed values) may = refl

can_have : (n : Names) (h : Head) (k : Kind) (items : List DataItem) (target : Target) (w : Waits) (flagged : Bool) → IsSayableWritten n (written k items target w)
    → list_all (λ (i : DataItem). allows h i.clause) items ≡ true → (length items == 0) ≡ false
    → (is_plain target || may_have_async h) ≡ true → (waits_for_nothing w || may_wait h) ≡ true → (not flagged || can_flag h) ≡ true
    → CanHave n.arrays.names h (clauses_of (written k items target w) flagged)
can_have n h k items target w flagged said allowed some async wait flag = record {
  items = said.items;
  allowed = allowed;
  few = said.few;
  complete = rw some (or_true (not (needs_item h)));
  async = async;
  target = said.target;
  wait = wait;
  queues = said.queues;
  flag = flag;
}

-- ## Directives

module _ (n : Names) (depth line : ℕ) (behind : List ℕ) (names : AreNames n.arrays.names) where
  abbrev IsRead : List ℕ → Act → ℕ → Type 0
  IsRead text act line' = IsReadHere n.arrays depth line text act (at_line line' behind)

  enter_here : (items : List DataItem) (target : Target) (w : Waits) → IsSayableWritten n (written kind.EnterData items target w)
      → IsRead (spelled_kind n kind.EnterData (written kind.EnterData items target w) behind) (placed kind.EnterData items target w) (line + 1)
  unfolding spelled_line
  enter_here items target w said =
      let form = form_of n kind.EnterData items target w said in
      let c : Clauses = clauses_of (written kind.EnterData items target w) false in
      directive_here n.arrays depth line (codes "enter data " ++ spelled_clauses n.arrays.names head.EnterData c behind) (placed_with kind.EnterData c) (at_line (line + 1) behind)
      (enter_line n.arrays depth c line behind names
      (can_have n head.EnterData kind.EnterData items target w false said form.0 (some_items items form.1) (or_true (is_plain target)) (or_true (waits_for_nothing w)) refl))

  exit_here : (finalize : Bool) (items : List DataItem) (target : Target) (w : Waits) → IsSayableWritten n (written (kind.ExitData finalize) items target w)
      → IsRead (spelled_kind n (kind.ExitData finalize) (written (kind.ExitData finalize) items target w) behind) (placed (kind.ExitData finalize) items target w) (line + 1)
  unfolding spelled_line
  exit_here finalize items target w said =
      let form = form_of n (kind.ExitData finalize) items target w said in
      let c : Clauses = clauses_of (written (kind.ExitData finalize) items target w) finalize in
      directive_here n.arrays depth line (codes "exit data " ++ spelled_clauses n.arrays.names head.ExitData c behind) (placed_with (kind.ExitData finalize) c) (at_line (line + 1) behind)
      (exit_line n.arrays depth c line behind names
      (can_have n head.ExitData (kind.ExitData finalize) items target w finalize said form.0 (some_items items form.1) (or_true (is_plain target)) (or_true (waits_for_nothing w)) (or_true (not finalize))))

  update_here : (if_present : Bool) (items : List DataItem) (target : Target) (w : Waits) → IsSayableWritten n (written (kind.Update if_present) items target w)
      → IsRead (spelled_kind n (kind.Update if_present) (written (kind.Update if_present) items target w) behind) (placed (kind.Update if_present) items target w) (line + 1)
  unfolding spelled_line
  update_here if_present items target w said =
      let form = form_of n (kind.Update if_present) items target w said in
      let c : Clauses = clauses_of (written (kind.Update if_present) items target w) if_present in
      directive_here n.arrays depth line (codes "update " ++ spelled_clauses n.arrays.names head.Update c behind) (placed_with (kind.Update if_present) c) (at_line (line + 1) behind)
      (update_line n.arrays depth c line behind names
      (can_have n head.Update (kind.Update if_present) items target w if_present said form.0 (some_items items form.1) (or_true (is_plain target)) (or_true (waits_for_nothing w)) (or_true (not if_present))))

  data_here : (items : List DataItem) (target : Target) (w : Waits) → IsSayableWritten n (written kind.Data items target w) → depth < MAX_CONSTRUCTS
      → IsRead (spelled_kind n kind.Data (written kind.Data items target w) behind) (placed kind.Data items target w) (line + 1)
  unfolding spelled_line
  data_here items target w said room =
      let form = form_of n kind.Data items target w said in
      let c : Clauses = clauses_of (written kind.Data items target w) false in
      directive_here n.arrays depth line (codes "data " ++ spelled_clauses n.arrays.names head.Data c (123 ∷ behind)) (placed_with kind.Data c) (at_line (line + 1) behind)
      (data_line n.arrays depth c line behind names
      (can_have n head.Data kind.Data items target w false said form.0 (some_items items form.1) (rw (no_target target form.2) refl) (rw (no_waits w form.3) refl) refl) room)

  wait_here : (items : List DataItem) (target : Target) (w : Waits) → IsSayableWritten n (written kind.Wait items target w)
      → IsRead (spelled_kind n kind.Wait (written kind.Wait items target w) behind) (placed kind.Wait items target w) (line + 1)
  unfolding spelled_line spelled_clauses spelled_items
  wait_here [] target w said =
      let form = form_of n kind.Wait [] target w said in
      directive_here n.arrays depth line (spelled_waits w (spelled_target target (10 ∷ behind))) (placed kind.Wait [] target w) (at_line (line + 1) behind)
      (wait_line n.arrays depth target w line behind (some_waits w form.3) said.queues said.target)
  wait_here (i ∷ items) target w said =
      let form = form_of n kind.Wait (i ∷ items) target w said in
      absurd (false≢true form.0)

  loop_behind : (k : Loop) (c : Clauses) → AreApart n → IsSayableLoop n k
      → act_behind n.arrays head.Loop c (at_line (line + 1) (spelled_loop n k behind)) ≡ Ok (placed_with (kind.Loop k) c, at_line (line + 1) behind)
  unfolding act_behind
  loop_behind k c apart said = rw (loop_is_read_again n k (line + 1) behind apart said) refl

  loop_here : (k : Loop) (items : List DataItem) (target : Target) (w : Waits) → AreApart n → IsSayableWritten n (written (kind.Loop k) items target w)
      → IsRead (spelled_kind n (kind.Loop k) (written (kind.Loop k) items target w) behind) (placed (kind.Loop k) items target w) (line + 1)
  unfolding spelled_line
  loop_here k items target w apart said =
      let form = form_of n (kind.Loop k) items target w said in
      let c : Clauses = clauses_of (written (kind.Loop k) items target w) false in
      let can : CanHave n.arrays.names head.Loop c = record {
        items = said.items;
        allowed = form.0;
        few = said.few;
        complete = refl;
        async = or_true (is_plain target);
        target = said.target;
        wait = or_true (waits_for_nothing w);
        queues = said.queues;
        flag = refl;
      } in
      directive_here n.arrays depth line (codes "parallel loop " ++ spelled_clauses n.arrays.names head.Loop c (spelled_loop n k behind)) (placed_with (kind.Loop k) c) (at_line (line + 1) behind)
      (loop_line n.arrays depth c line (spelled_loop n k behind) names can ∙ loop_behind k c apart said.kinds)

-- ## Prints and questions

print_word : (line : ℕ) (rest : List ℕ) → token_at false (at_line line (codes "print(" ++ rest)) ≡ Ok (lex (codes "print") line (40 ∷ rest))
unfolding token_at gap_at token_len
print_word line rest = refl

semicolon : (line : ℕ) (rest : List ℕ) → token_at false (at_line line (59 ∷ rest)) ≡ Ok (lex (codes ";") line rest)
unfolding token_at gap_at token_len
semicolon line rest = rw (not_second (front rest == 61)) refl

-- what is shown, in parentheses behind `print`
print_here : (arrays : Declared) (depth line : ℕ) (text behind : List ℕ) (act : Act) (t : Lexeme) → token_at false (at_line line text) ≡ Ok t
    → shown_of arrays t ≡ Ok (act, at_line line (41 ∷ 59 ∷ behind)) → IsReadHere arrays depth line (codes "print(" ++ text) act (at_line line behind)
unfolding act_of simple_of print_at expect exactly
print_here arrays depth line text behind act t first shown = record {
  token = lex (codes "print") line (40 ∷ text);
  first = print_word line text;
  place = refl;
  other = refl;
  read = rw (opens false line text, first, shown, closes false line (59 ∷ behind), semicolon line behind) refl;
}

-- a name is no word of the grammar, and no sign
not_routine : (name : List ℕ) → is_reserved name ≡ false → bytes_eq (take 4 name) (codes "acc_") ≡ false
not_routine name free = (or_parts (list_any (bytes_eq name) (codes "long" ∷ codes "int" ∷ codes "host" ∷ codes "for" ∷ codes "print" ∷ [])) (bytes_eq (take 4 name) (codes "acc_")) free).1

not_print : (name : List ℕ) → is_reserved name ≡ false → bytes_eq name (codes "print") ≡ false
not_print name free = false_from_ne_true (bytes_eq name (codes "print")) (λ same.
    let is : name ≡ codes "print" = (bytes_eq-Decides name (codes "print")).0 same in
    let reserved : is_reserved name ≡ true = rw is refl in
    false≢true (sym free ∙ reserved))

not_sign : (name : List ℕ) (b : ℕ) → is_letter (front name) ≡ true → is_letter b ≡ false → bytes_eq name (b ∷ []) ≡ false
not_sign name b letter other = false_from_ne_true (bytes_eq name (b ∷ [])) (λ same.
    let is : name ≡ b ∷ [] = (bytes_eq-Decides name (b ∷ [])).0 same in
    let letter' : is_letter b ≡ true = rw is at letter in
    false≢true (sym other ∙ letter'))

range_shown : (arrays : Declared) (r : Range) (line : ℕ) (rest : List ℕ) → AreNames arrays.names → IsSayableRange arrays.names r
    → shown_of arrays (lex (slice_index_or arrays.names r.array []) line (brackets r rest)) ≡ Ok (Print r, at_line line rest)
unfolding shown_of range_of
range_shown arrays r line rest names said =
    let is = names.each r.array [] said.array in
    rw (
      not_routine (slice_index_or arrays.names r.array []) is.free,
      array_named arrays r.array line (at_line line (brackets r rest)) names said.array,
      range_behind_here false r (size_of arrays r.array) line rest said.lo said.len,
    ) refl

range_printed : (arrays : Declared) (depth line : ℕ) (r : Range) (behind : List ℕ) → AreNames arrays.names → IsSayableRange arrays.names r
    → IsReadHere arrays depth line (codes "print(" ++ (range.spelled arrays.names r ++ 41 ∷ 59 ∷ behind)) (Print r) (at_line line behind)
range_printed arrays depth line r behind names said =
    let name : List ℕ = slice_index_or arrays.names r.array [] in
    let is = names.each r.array [] said.array in
    let rest : List ℕ = brackets r (41 ∷ 59 ∷ behind) in
    let first : token_at false (at_line line (range.spelled arrays.names r ++ 41 ∷ 59 ∷ behind)) ≡ Ok (lex name line rest) =
    rw (range_text arrays.names r (41 ∷ 59 ∷ behind)) (word_token false line name rest is.first is.word refl) in
    print_here arrays depth line (range.spelled arrays.names r ++ 41 ∷ 59 ∷ behind) behind (Print r) (lex name line rest) first (range_shown arrays r line (41 ∷ 59 ∷ behind) names said)

-- the words of questions and calls
present_word : (line : ℕ) (rest : List ℕ) → token_at false (at_line line (codes "acc_is_present(" ++ rest)) ≡ Ok (lex (codes "acc_is_present") line (40 ∷ rest))
unfolding token_at gap_at token_len
present_word line rest = refl

test_word : (line : ℕ) (rest : List ℕ) → token_at false (at_line line (codes "acc_async_test(" ++ rest)) ≡ Ok (lex (codes "acc_async_test") line (40 ∷ rest))
unfolding token_at gap_at token_len
test_word line rest = refl

test_all_word : (line : ℕ) (rest : List ℕ) → token_at false (at_line line (codes "acc_async_test_all(" ++ rest)) ≡ Ok (lex (codes "acc_async_test_all") line (40 ∷ rest))
unfolding token_at gap_at token_len
test_all_word line rest = refl

device_word : (line : ℕ) (rest : List ℕ) → token_at false (at_line line (codes "acc_get_device_num(" ++ rest)) ≡ Ok (lex (codes "acc_get_device_num") line (40 ∷ rest))
unfolding token_at gap_at token_len
device_word line rest = refl

devices_word : (line : ℕ) (rest : List ℕ) → token_at false (at_line line (codes "acc_get_num_devices(" ++ rest)) ≡ Ok (lex (codes "acc_get_num_devices") line (40 ∷ rest))
unfolding token_at gap_at token_len
devices_word line rest = refl

set_device_word : (line : ℕ) (rest : List ℕ) → token_at false (at_line line (codes "acc_set_device_num(" ++ rest)) ≡ Ok (lex (codes "acc_set_device_num") line (40 ∷ rest))
unfolding token_at gap_at token_len
set_device_word line rest = refl

set_async_word : (line : ℕ) (rest : List ℕ) → token_at false (at_line line (codes "acc_set_default_async(" ++ rest)) ≡ Ok (lex (codes "acc_set_default_async") line (40 ∷ rest))
unfolding token_at gap_at token_len
set_async_word line rest = refl

-- arguments
range_given : (arrays : Declared) (r : Range) (line : ℕ) (rest : List ℕ) → AreNames arrays.names → IsSayableRange arrays.names r
    → range_argument arrays (at_line line (40 ∷ (range.spelled arrays.names r ++ 41 ∷ rest))) ≡ Ok (r, at_line line rest)
unfolding range_argument expect exactly
range_given arrays r line rest names said =
    rw (
      opens false line (range.spelled arrays.names r ++ 41 ∷ rest),
      range_is_read_again false arrays r line (41 ∷ rest) names said.array said.lo said.len,
      closes false line rest,
    ) refl

queue_given : (value : ℤ) (line : ℕ) (rest : List ℕ) → IsSigned value → queue_argument (at_line line (40 ∷ (value_text value ++ 41 ∷ rest))) ≡ Ok (value, at_line line rest)
unfolding queue_argument expect exactly
queue_given value line rest is =
    let here = queue_here false line value (41 ∷ rest) is refl refl in
    rw (opens false line (value_text value ++ 41 ∷ rest), here.first, here.queue, closes false line rest) refl

nothing_given : (line : ℕ) (rest : List ℕ) → no_argument (at_line line (40 ∷ 41 ∷ rest)) ≡ Ok (at_line line rest)
unfolding no_argument expect exactly
nothing_given line rest = rw (opens false line (41 ∷ rest), closes false line rest) refl

-- questions
present_asked : (arrays : Declared) (depth line : ℕ) (i : DataItem) (behind : List ℕ) → i.clause ≡ Present → AreNames arrays.names → IsSayableRange arrays.names i.range
    → IsReadHere arrays depth line (codes "print(acc_is_present(" ++ (range.spelled arrays.names i.range ++ 41 ∷ 41 ∷ 59 ∷ behind)) (placed kind.IsPresent (i ∷ []) Plain waits.Nothing) (at_line line behind)
unfolding shown_of question_of
present_asked arrays depth line i behind is names said =
    let text : List ℕ = range.spelled arrays.names i.range ++ 41 ∷ 41 ∷ 59 ∷ behind in
    print_here arrays depth line (codes "acc_is_present(" ++ text) behind (placed kind.IsPresent (i ∷ []) Plain waits.Nothing) (lex (codes "acc_is_present") line (40 ∷ text)) (present_word line text)
    (rw (range_given arrays i.range line (41 ∷ 59 ∷ behind) names said, ← is) refl)

test_asked : (arrays : Declared) (depth line : ℕ) (value : ℤ) (behind : List ℕ) → IsSigned value
    → IsReadHere arrays depth line (codes "print(acc_async_test(" ++ (value_text value ++ 41 ∷ 41 ∷ 59 ∷ behind)) (placed kind.AsyncTest [] Plain (waits.Listed (value ∷ []))) (at_line line behind)
unfolding shown_of question_of
test_asked arrays depth line value behind is =
    let text : List ℕ = value_text value ++ 41 ∷ 41 ∷ 59 ∷ behind in
    print_here arrays depth line (codes "acc_async_test(" ++ text) behind (placed kind.AsyncTest [] Plain (waits.Listed (value ∷ []))) (lex (codes "acc_async_test") line (40 ∷ text)) (test_word line text)
    (rw (queue_given value line (41 ∷ 59 ∷ behind) is) refl)

test_all_asked : (arrays : Declared) (depth line : ℕ) (behind : List ℕ)
    → IsReadHere arrays depth line (codes "print(acc_async_test_all());" ++ behind) (placed kind.AsyncTest [] Plain waits.All) (at_line line behind)
unfolding shown_of question_of
test_all_asked arrays depth line behind =
    print_here arrays depth line (codes "acc_async_test_all());" ++ behind) behind (placed kind.AsyncTest [] Plain waits.All) (lex (codes "acc_async_test_all") line (codes "());" ++ behind)) (test_all_word line (codes "));" ++ behind))
    (rw (nothing_given line (codes ");" ++ behind)) refl)

device_asked : (arrays : Declared) (depth line : ℕ) (behind : List ℕ) → IsReadHere arrays depth line (codes "print(acc_get_device_num());" ++ behind) ShowDevice (at_line line behind)
unfolding shown_of question_of
device_asked arrays depth line behind =
    print_here arrays depth line (codes "acc_get_device_num());" ++ behind) behind ShowDevice (lex (codes "acc_get_device_num") line (codes "());" ++ behind)) (device_word line (codes "));" ++ behind))
    (rw (nothing_given line (codes ");" ++ behind)) refl)

devices_asked : (arrays : Declared) (depth line : ℕ) (behind : List ℕ) → IsReadHere arrays depth line (codes "print(acc_get_num_devices());" ++ behind) ShowDevices (at_line line behind)
unfolding shown_of question_of
devices_asked arrays depth line behind =
    print_here arrays depth line (codes "acc_get_num_devices());" ++ behind) behind ShowDevices (lex (codes "acc_get_num_devices") line (codes "());" ++ behind)) (devices_word line (codes "));" ++ behind))
    (rw (nothing_given line (codes ");" ++ behind)) refl)

-- ## Calls

record IsNumberHere (n : ℕ) (at after : Spot) : Type 0 where
  token : Lexeme
  first : token_at false at ≡ Ok token
  number : number_of MAX_INDEX token ≡ Ok (n, after)

number_here : (line n : ℕ) (rest : List ℕ) → n ≤ MAX_INDEX → prefix_len is_digit rest ≡ 0 → is_letter (front rest) ≡ false
    → IsNumberHere n (at_line line (decimal n ++ rest)) (at_line line rest)
unfolding number_of
number_here line n rest small ends apart = by (decimal n) (is_number n (omega arith))
  where
    by : (ds : List ℕ) → IsNumber n ds → IsNumberHere n (at_line line (ds ++ rest)) (at_line line rest)
    by ds is = record {
      token = lex ds line rest;
      first = number_token false line n ds rest is ends apart;
      number = rw (is.is, is.digit, is.value, le-ltb MAX_INDEX n small) refl;
    }

device_set : (arrays : Declared) (depth line n : ℕ) (behind : List ℕ) → n ≤ MAX_INDEX
    → IsReadHere arrays depth line (codes "acc_set_device_num(" ++ (decimal n ++ 41 ∷ 59 ∷ behind)) (SetDevice n) (at_line line behind)
unfolding act_of simple_of call_of other_call number_argument expect exactly
device_set arrays depth line n behind small =
    let text : List ℕ = decimal n ++ 41 ∷ 59 ∷ behind in
    let here = number_here line n (41 ∷ 59 ∷ behind) small refl refl in
    record {
      token = lex (codes "acc_set_device_num") line (40 ∷ text);
      first = set_device_word line text;
      place = refl;
      other = refl;
      read = rw (opens false line text, here.first, here.number, closes false line (59 ∷ behind), semicolon line behind) refl;
    }

async_set : (arrays : Declared) (depth line : ℕ) (value : ℤ) (behind : List ℕ) → IsSigned value
    → IsReadHere arrays depth line (codes "acc_set_default_async(" ++ (value_text value ++ 41 ∷ 59 ∷ behind)) (SetAsync value) (at_line line behind)
unfolding act_of simple_of call_of other_call expect exactly
async_set arrays depth line value behind is =
    let text : List ℕ = value_text value ++ 41 ∷ 59 ∷ behind in
    record {
      token = lex (codes "acc_set_default_async") line (40 ∷ text);
      first = set_async_word line text;
      place = refl;
      other = refl;
      read = rw (queue_given value line (59 ∷ behind) is, semicolon line behind) refl;
    }

-- ## Writes

equals : (line : ℕ) (rest : List ℕ) → token_at false (at_line line (32 ∷ 61 ∷ 32 ∷ rest)) ≡ Ok (lex (codes "=") line (32 ∷ rest))
unfolding token_at gap_at token_len
equals line rest = refl

written_behind : (array line cell : ℕ) (value : ℤ) (behind : List ℕ) → cell ≤ MAX_INDEX → IsLong value
    → write_at array (at_line line (91 ∷ (decimal cell ++ 93 ∷ 32 ∷ 61 ∷ 32 ∷ (value_text value ++ 59 ∷ behind)))) ≡ Ok (Write array cell value, at_line line (59 ∷ behind))
unfolding write_at cell_at signed_number_at expect exactly
written_behind array line cell value behind small valued =
    let after : List ℕ = 32 ∷ 61 ∷ 32 ∷ (value_text value ++ 59 ∷ behind) in
    let number = number_here line cell (93 ∷ after) small refl refl in
    let here = value_here line value (59 ∷ behind) valued refl refl in
    rw (
      opening_bracket false line (decimal cell ++ 93 ∷ after),
      number.first,
      number.number,
      closes_cell false line after,
      equals line (value_text value ++ 59 ∷ behind),
      behind_space false line (value_text value ++ 59 ∷ behind),
      here.here,
      here.reads,
    ) refl

write_here : (arrays : Declared) (depth line array cell : ℕ) (value : ℤ) (behind : List ℕ) → AreNames arrays.names → array < length arrays.names → cell ≤ MAX_INDEX → IsLong value
    → IsReadHere arrays depth line (slice_index_or arrays.names array [] ++ 91 ∷ (decimal cell ++ 93 ∷ 32 ∷ 61 ∷ 32 ∷ (value_text value ++ 59 ∷ behind))) (Write array cell value) (at_line line behind)
unfolding act_of simple_of expect exactly
write_here arrays depth line array cell value behind names within small valued =
    let name : List ℕ = slice_index_or arrays.names array [] in
    let is = names.each array [] within in
    let text : List ℕ = 91 ∷ (decimal cell ++ 93 ∷ 32 ∷ 61 ∷ 32 ∷ (value_text value ++ 59 ∷ behind)) in
    record {
      token = lex name line text;
      first = word_token false line name text is.first is.word refl;
      place = refl;
      other = not_sign name 125 is.first refl;
      read = rw (
        not_sign name 35 is.first refl,
        not_print name is.free,
        not_routine name is.free,
        array_named arrays array line (at_line line text) names within,
        written_behind array line cell value behind small valued,
        semicolon line behind,
      ) refl;
    }

-- ## Acts

same_line : (line : ℕ) → line + 0 ≡ line
same_line line = omega arith

test_here : (n : Names) (depth line : ℕ) (behind : List ℕ) (items : List DataItem) (target : Target) (w : Waits) → IsSayableWritten n (written kind.AsyncTest items target w)
    → IsReadHere n.arrays depth line (spelled_kind n kind.AsyncTest (written kind.AsyncTest items target w) behind) (placed kind.AsyncTest items target w) (at_line line behind)
unfolding spelled_queues more_queues
test_here n depth line behind (i ∷ items) target w said = absurd (false≢true (form_of n kind.AsyncTest (i ∷ items) target w said).0)
test_here n depth line behind [] Unvalued w said = absurd (false≢true (form_of n kind.AsyncTest [] Unvalued w said).2)
test_here n depth line behind [] (Value value) w said = absurd (false≢true (form_of n kind.AsyncTest [] (Value value) w said).2)
test_here n depth line behind [] Plain waits.Nothing said = absurd (false≢true (form_of n kind.AsyncTest [] Plain waits.Nothing said).3)
test_here n depth line behind [] Plain waits.All said = test_all_asked n.arrays depth line behind
test_here n depth line behind [] Plain (waits.Listed []) said = absurd (omega (arith, said.kinds))
test_here n depth line behind [] Plain (waits.Listed (value ∷ [])) said = test_asked n.arrays depth line value behind (said.queues.2 0 value (omega arith))
test_here n depth line behind [] Plain (waits.Listed (value ∷ next ∷ values)) said = absurd (omega (arith, said.kinds))

is_present : (i : DataItem) → allows_items kind.IsPresent (i ∷ []) ≡ true → i.clause ≡ Present
is_present i may = by i.clause (and_parts (allows_clause kind.IsPresent i.clause) true may).0
  where
    by : (clause : Clause) → allows_clause kind.IsPresent clause ≡ true → clause ≡ Present
    by Copy may = absurd (false≢true may)
    by Copyin may = absurd (false≢true may)
    by Copyout may = absurd (false≢true may)
    by Create may = absurd (false≢true may)
    by Present may = refl
    by NoCreate may = absurd (false≢true may)
    by Delete may = absurd (false≢true may)
    by UpdateSelf may = absurd (false≢true may)
    by UpdateDevice may = absurd (false≢true may)

present_here : (n : Names) (depth line : ℕ) (behind : List ℕ) (items : List DataItem) (target : Target) (w : Waits) → AreNames n.arrays.names → IsSayableWritten n (written kind.IsPresent items target w)
    → IsReadHere n.arrays depth line (spelled_kind n kind.IsPresent (written kind.IsPresent items target w) behind) (placed kind.IsPresent items target w) (at_line line behind)
present_here n depth line behind [] target w names said = absurd (false≢true (form_of n kind.IsPresent [] target w said).1)
present_here n depth line behind (i ∷ j ∷ items) target w names said =
    absurd (false≢true (sym (ne_eqb (length (i ∷ j ∷ items)) 1 (λ e. omega arith)) ∙ (form_of n kind.IsPresent (i ∷ j ∷ items) target w said).1))
present_here n depth line behind (i ∷ []) Unvalued w names said = absurd (false≢true (form_of n kind.IsPresent (i ∷ []) Unvalued w said).2)
present_here n depth line behind (i ∷ []) (Value value) w names said = absurd (false≢true (form_of n kind.IsPresent (i ∷ []) (Value value) w said).2)
present_here n depth line behind (i ∷ []) Plain waits.All names said = absurd (false≢true (form_of n kind.IsPresent (i ∷ []) Plain waits.All said).3)
present_here n depth line behind (i ∷ []) Plain (waits.Listed values) names said = absurd (false≢true (form_of n kind.IsPresent (i ∷ []) Plain (waits.Listed values) said).3)
present_here n depth line behind (i ∷ []) Plain waits.Nothing names said =
    present_asked n.arrays depth line i behind (is_present i (form_of n kind.IsPresent (i ∷ []) Plain waits.Nothing said).0) names (said.items 0 i (omega arith))

kind_here : (n : Names) (depth line : ℕ) (behind : List ℕ) (k : Kind) (items : List DataItem) (target : Target) (w : Waits) → AreApart n → IsSayableWritten n (written k items target w)
    → depth_behind_kind depth k ≤ MAX_CONSTRUCTS
    → IsReadHere n.arrays depth line (spelled_kind n k (written k items target w) behind) (placed k items target w) (at_line (line + feeds_of_kind k) behind)
kind_here n depth line behind kind.Data items target w apart said room = data_here n depth line behind apart.arrays items target w said (omega arith)
kind_here n depth line behind kind.EndData items target w apart said room = absurd said.kinds
kind_here n depth line behind kind.EnterData items target w apart said room = enter_here n depth line behind apart.arrays items target w said
kind_here n depth line behind (kind.ExitData finalize) items target w apart said room = exit_here n depth line behind apart.arrays finalize items target w said
kind_here n depth line behind (kind.Update if_present) items target w apart said room = update_here n depth line behind apart.arrays if_present items target w said
kind_here n depth line behind kind.Wait items target w apart said room = wait_here n depth line behind apart.arrays items target w said
kind_here n depth line behind (kind.Loop k) items target w apart said room = loop_here n depth line behind apart.arrays k items target w apart said
kind_here n depth line behind kind.AsyncTest items target w apart said room = rw (same_line line) (test_here n depth line behind items target w said)
kind_here n depth line behind kind.IsPresent items target w apart said room = rw (same_line line) (present_here n depth line behind items target w apart.arrays said)

-- a directive of a script is one for device 0 and acc_async_noval
as_placed : (d : Directive) → d.device ≡ 0 → d.default ≡ negsuc 0 → placed d.kind d.items d.target d.waits ≡ Place d
as_placed d device default =
    ap (λ (n : ℕ). Place (record { device = n; default = negsuc 0; kind = d.kind; items = d.items; target = d.target; waits = d.waits })) (sym device)
    ∙ ap (λ (value : ℤ). Place (record { device = d.device; default = value; kind = d.kind; items = d.items; target = d.target; waits = d.waits })) (sym default)

pub act_here : (n : Names) (act : Act) (depth line : ℕ) (behind : List ℕ) → AreApart n → IsSayable n act → depth_behind depth act ≤ MAX_CONSTRUCTS
    → IsReadHere n.arrays depth line (spelled n act behind) act (at_line (line + feeds_of act) behind)
unfolding spelled
act_here n (Place d) depth line behind apart said room =
    subst (λ (act : Act). IsReadHere n.arrays depth line (spelled_kind n d.kind (written_of d) behind) act (at_line (line + feeds_of_kind d.kind) behind)) (as_placed d said.device said.default)
    (kind_here n depth line behind d.kind d.items d.target d.waits apart said.written room)
act_here n (Write array cell value) depth line behind apart said room = rw (same_line line) (write_here n.arrays depth line array cell value behind apart.arrays said.0 said.1 said.2)
act_here n (Print r) depth line behind apart said room = rw (same_line line) (range_printed n.arrays depth line r behind apart.arrays said)
act_here n (SetDevice device) depth line behind apart said room = rw (same_line line) (device_set n.arrays depth line device behind said)
act_here n (SetAsync value) depth line behind apart said room = rw (same_line line) (async_set n.arrays depth line value behind said)
act_here n ShowDevice depth line behind apart said room = rw (same_line line) (device_asked n.arrays depth line behind)
act_here n ShowDevices depth line behind apart said room = rw (same_line line) (devices_asked n.arrays depth line behind)

pub act_is_read_again : ActIsReadAgain
act_is_read_again n act depth line behind apart said room =
    let here = act_here n act depth line behind apart said room in
    rw (here.first, here.read) refl

pub statement_is_read_again : StatementIsReadAgain
unfolding statement_turn
statement_is_read_again n b act line behind apart said room =
    let here = act_here n act b.depth line behind apart said room in
    rw (here.first, here.other, here.read, here.place) refl
