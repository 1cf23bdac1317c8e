-- A program that can be written is read again as it is spelled.
use Rattle.std.proofs.Common.{◌≡◌, ℕ, ◌+◌, ◌<◌, ◌≤◌, Bool, true, false, List, [], ◌∷◌, ◌++◌, length, refl, arith}
use Rattle.std.specs.Prelude.{slice_index_or}
use Rattle.std.specs.Fmt.{decimal}
use Rattle.std.proofs.lemmas.Bool.{false≢true}
use Rattle.acc_place.specs.declared.directive.DataItem.{DataItem}
use Rattle.acc_place.specs.declared.directive.Kind.{Kind}
use Rattle.acc_place.specs.declared.directive.Kind.TheVariants as kind
use Rattle.acc_place.specs.declared.directive.Target.{Target}
use Rattle.acc_place.specs.declared.directive.Target.TheVariants.{Plain, Unvalued, Value}
use Rattle.acc_place.specs.declared.directive.Waits.{Waits}
use Rattle.acc_place.specs.declared.directive.Waits.TheVariants as waits
use Rattle.acc_place.specs.declared.directive.Written.{Written}
use Rattle.acc_host.specs.declared.program.Act.{Act}
use Rattle.acc_host.specs.declared.program.Act.TheVariants.{Place, Write, Print, SetDevice, SetAsync, ShowDevice, ShowDevices}
use Rattle.acc_script.specs.declared.head.Head.{Head}
use Rattle.acc_script.specs.declared.head.Head.TheVariants as head
use Rattle.acc_script.specs.declared.clause.Clauses.{Clauses}
use Rattle.acc_token.specs.declared.token.Gap.TheVariants as gap
use Rattle.acc_token.specs.declared.token.Step.TheVariants.{Stop}
use Rattle.test_grammar.specs.ActSpellings.{word_of, spelled_items, spelled_waits, spelled_target, spelled_flag, spelled_clauses, words_of, spelled_line, spelled_test, spelled_asked, clauses_of, spelled_kind, written_of, spelled, IsSayableKind, IsSayable}
use Rattle.test_grammar.specs.ExpressionSpellings.{AreApart}
use Rattle.acc_script.specs.Expressions.{Names, names}
use Rattle.test_grammar.specs.LoopSpellings.{spelled_loop}
use Rattle.test_grammar.specs.RangeSpellings as range
use Rattle.test_grammar.specs.ScriptSpellings.{declared, plain, CanSay, spelled_program, ProgramIsReadAgain}
use Rattle.acc_token.specs.Tokens.{front, is_letter, step_of}
use Rattle.test_grammar.proofs.ActSpelling.{act_is_read_again}
use Rattle.test_grammar.proofs.ClauseSpelling.{queues_long}
use Rattle.test_grammar.proofs.LoopSpelling.{joined_long, loop_long}
use Rattle.test_grammar.proofs.ScriptSpelling.{IsReadAgain, sayable_script_is_read_again}
use Rattle.acc_token.proofs.TokenSpelling.{stops_here, letter_large}
use Rattle.test_grammar.specs.ValueSpellings.{value_text}

-- ## An act begins at once

name_starts : (name rest : List ℕ) → is_letter (front name) ≡ true → step_of gap.Plain false (front (name ++ rest)) ≡ Stop
name_starts [] rest letter = absurd (false≢true letter)
name_starts (b ∷ name) rest letter = stops_here false b (letter_large b letter)

kind_starts : (n : Names) (k : Kind) (w : Written) (behind : List ℕ) → IsSayableKind n k w.waits → step_of gap.Plain false (front (spelled_kind n k w behind)) ≡ Stop
unfolding spelled_line
kind_starts n kind.Data w behind said = refl
kind_starts n kind.EndData w behind said = absurd said
kind_starts n kind.EnterData w behind said = refl
kind_starts n (kind.ExitData finalize) w behind said = refl
kind_starts n (kind.Update if_present) w behind said = refl
kind_starts n kind.Wait w behind said = refl
kind_starts n (kind.Loop k) w behind said = refl
kind_starts n kind.AsyncTest w behind said = refl
kind_starts n kind.IsPresent w behind said = refl

act_starts : (n : Names) (act : Act) (behind : List ℕ) → AreApart n → IsSayable n act → step_of gap.Plain false (front (spelled n act behind)) ≡ Stop
unfolding spelled
act_starts n (Place d) behind apart said = kind_starts n d.kind (written_of d) behind said.written.kinds
act_starts n (Write array cell value) behind apart said =
    let is = apart.arrays.each array [] said.0 in
    name_starts (slice_index_or n.arrays.names array []) (91 ∷ (decimal cell ++ 93 ∷ 32 ∷ 61 ∷ 32 ∷ (value_text value ++ 59 ∷ behind))) is.first
act_starts n (Print r) behind apart said = refl
act_starts n (SetDevice device) behind apart said = refl
act_starts n (SetAsync value) behind apart said = refl
act_starts n ShowDevice behind apart said = refl
act_starts n ShowDevices behind apart said = refl

-- ## An act has some bytes

items_long : (names : List (List ℕ)) (items : List DataItem) (behind : List ℕ) → length behind ≤ length (spelled_items names items behind)
unfolding spelled_items
items_long names [] behind = omega arith
items_long names (i ∷ items) behind =
    let more_long = items_long names items behind in
    let on : List ℕ = 41 ∷ 32 ∷ spelled_items names items behind in
    let range_long = joined_long (range.spelled names i.range) on (length behind) (omega arith) in
    joined_long (word_of i.clause) (40 ∷ (range.spelled names i.range ++ on)) (length behind) (omega arith)

waits_long : (w : Waits) (behind : List ℕ) → length behind ≤ length (spelled_waits w behind)
waits_long waits.Nothing behind = omega arith
waits_long waits.All behind = omega arith
waits_long (waits.Listed values) behind = let long = queues_long values (41 ∷ 32 ∷ behind) in omega arith

target_long : (target : Target) (behind : List ℕ) → length behind ≤ length (spelled_target target behind)
target_long Plain behind = omega arith
target_long Unvalued behind = omega arith
target_long (Value value) behind = let long = joined_long (value_text value) (41 ∷ 32 ∷ behind) (length behind) (omega arith) in omega arith

flag_long : (h : Head) (flagged : Bool) (behind : List ℕ) → length behind ≤ length (spelled_flag h flagged behind)
flag_long head.ExitData true behind = omega arith
flag_long head.Update true behind = omega arith
flag_long h flagged behind = omega arith

line_long : (names : List (List ℕ)) (h : Head) (c : Clauses) (behind : List ℕ) → length behind < length (spelled_line names h c behind)
unfolding spelled_line spelled_clauses
line_long names h c behind =
    let flag : List ℕ = spelled_flag h c.flagged (10 ∷ behind) in
    let target : List ℕ = spelled_target c.target flag in
    let w : List ℕ = spelled_waits c.waits target in
    let first = flag_long h c.flagged (10 ∷ behind) in
    let second = target_long c.target flag in
    let third = waits_long c.waits target in
    let fourth = items_long names c.items w in
    let last = joined_long (words_of h) (spelled_items names c.items w) (length behind) (omega arith) in
    omega arith

test_long : (w : Waits) (behind : List ℕ) → length behind ≤ length (spelled_test w behind)
test_long waits.Nothing behind = omega arith
test_long waits.All behind = omega arith
test_long (waits.Listed values) behind = let long = queues_long values (41 ∷ behind) in omega arith

asked_long : (names : List (List ℕ)) (items : List DataItem) (behind : List ℕ) → length behind ≤ length (spelled_asked names items behind)
asked_long names [] behind = omega arith
asked_long names (i ∷ items) behind = joined_long (range.spelled names i.range) behind (length behind) (omega arith)

kind_long : (n : Names) (k : Kind) (w : Written) (behind : List ℕ) → IsSayableKind n k w.waits → length behind < length (spelled_kind n k w behind)
kind_long n kind.Data w behind said = let long = line_long n.arrays.names head.Data (clauses_of w false) (123 ∷ behind) in omega arith
kind_long n kind.EndData w behind said = absurd said
kind_long n kind.EnterData w behind said = line_long n.arrays.names head.EnterData (clauses_of w false) behind
kind_long n (kind.ExitData finalize) w behind said = line_long n.arrays.names head.ExitData (clauses_of w finalize) behind
kind_long n (kind.Update if_present) w behind said = line_long n.arrays.names head.Update (clauses_of w if_present) behind
kind_long n kind.Wait w behind said = line_long n.arrays.names head.Wait (clauses_of w false) behind
kind_long n (kind.Loop k) w behind said =
    let inner = loop_long n k behind in
    let long = line_long n.arrays.names head.Loop (clauses_of w false) (spelled_loop n k behind) in
    omega arith
kind_long n kind.AsyncTest w behind said = let long = test_long w.waits (41 ∷ 59 ∷ behind) in omega arith
kind_long n kind.IsPresent w behind said = let long = asked_long n.arrays.names w.items (41 ∷ 41 ∷ 59 ∷ behind) in omega arith

act_long : (n : Names) (act : Act) (behind : List ℕ) → IsSayable n act → length behind < length (spelled n act behind)
unfolding spelled
act_long n (Place d) behind said = kind_long n d.kind (written_of d) behind said.written.kinds
act_long n (Write array cell value) behind said =
    let value_long = joined_long (value_text value) (59 ∷ behind) (length behind) (omega arith) in
    let on : List ℕ = 93 ∷ 32 ∷ 61 ∷ 32 ∷ (value_text value ++ 59 ∷ behind) in
    let cell_long = joined_long (decimal cell) on (length behind) (omega arith) in
    let name_long = joined_long (slice_index_or n.arrays.names array []) (91 ∷ (decimal cell ++ on)) (length behind + 1) (omega arith) in
    omega arith
act_long n (Print r) behind said = let long = joined_long (range.spelled n.arrays.names r) (41 ∷ 59 ∷ behind) (length behind) (omega arith) in omega arith
act_long n (SetDevice device) behind said = let long = joined_long (decimal device) (41 ∷ 59 ∷ behind) (length behind) (omega arith) in omega arith
act_long n (SetAsync value) behind said = let long = joined_long (value_text value) (41 ∷ 59 ∷ behind) (length behind) (omega arith) in omega arith
act_long n ShowDevice behind said = omega arith
act_long n ShowDevices behind said = omega arith

-- ## The program

act_again : (n : Names) (depth : ℕ) (act : Act) → AreApart n → CanSay n depth act → IsReadAgain (plain n) n.arrays depth act
act_again n depth act apart can = record {
  starts = λ behind. act_starts n act behind apart can.0;
  longer = λ behind. act_long n act behind can.0;
  again = λ line behind. act_is_read_again n act depth line behind apart can.0 can.1;
}

pub program_is_read_again : ProgramIsReadAgain
unfolding spelled_program
program_is_read_again index p said =
    let n : Names = names (declared p) index in
    sayable_script_is_read_again (CanSay n) (plain n) p (λ depth act can. act_again n depth act said.apart can) said.script
