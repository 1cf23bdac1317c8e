-- A script that is spelled in the plainest way is read as that script, if each of its acts is.
use Rattle.std.proofs.Common.{◌≡◌, ℕ, zero, suc, ◌+◌, ◌<◌, ◌≤◌, Bool, true, false, List, [], ◌∷◌, ◌++◌, length, take, drop, Result, Ok, Err, refl, sym, ap, ◌∙◌, arith, append_assoc, length-append}
use Rattle.std.specs.Prelude.{codes, bytes_eq, if◌then◌else◌}
use Rattle.std.proofs.lemmas.Bool.{false_from_ne_true, ne_eqb, eq-eqb, le-ltb}
use Rattle.std.proofs.lemmas.List.{append-nil}
use Rattle.std.proofs.lemmas.Slice.Eq.{bytes_eq-Decides}
use Rattle.acc_base.specs.declared.config.TheConstants.{MAX_HOSTS}
use Rattle.acc_host.specs.declared.program.Act.{Act}
use Rattle.acc_host.specs.declared.program.HostProgram.{HostProgram}
use Rattle.acc_host.specs.declared.program.Statement.{Statement}
use Rattle.acc_token.specs.declared.read_fault.ReadFault.{ReadFault}
use Rattle.acc_token.specs.declared.read_fault.ReadKind.TheVariants.{Form}
use Rattle.acc_token.specs.declared.text.TheConstants.{MAX_TEXT}
use Rattle.acc_token.specs.declared.token.Gap.TheVariants.{Plain}
use Rattle.acc_token.specs.declared.token.Step.TheVariants.{Stop}
use Rattle.acc_script.specs.Arrays.{Declared, array_of}
use Rattle.test_grammar.specs.ArraySpellings.{behind_lines}
use Rattle.acc_token.specs.Faults.{fails, ◌>>=◌}
use Rattle.acc_script.specs.Scripts.{ScriptView, host_at, host_turn, script_at, script_of}
use Rattle.test_grammar.specs.ScriptSpellings.{ActSpelling, is_end, act_text, feeds_of, ends_line, line_end, lines_of, spelled_statements, line_behind, spelled_hosts, spelled_script, CanStandAs, ArePlaced, AreHosts, declared, IsSayableScript}
use Rattle.acc_script.specs.Statements.{Body, body, depth_behind, with_statement, end_of_construct, simple_of, act_of, statement_turn}
use Rattle.acc_token.specs.Tokens.{Spot, Lexeme, front, line_after, step_of, gap_at, token_len, token_at, exactly, expect, name_of}
use Rattle.acc_token.specs.Turns.{Turn, turn}
use Rattle.test_grammar.proofs.ArraySpelling.{last_brace, behind_feed, not_yet, arrays_are_read_again}
use Rattle.test_grammar.proofs.ExpressionSpelling.{at_line, lex}
use Rattle.acc_token.proofs.GapAt.{gap_stops}
use Rattle.test_grammar.proofs.LoopSpelling.{opening_brace}
use Rattle.test_grammar.proofs.TurnsSpelling.{AllGive, last, more, past, all_give}

-- Inside so many data constructs the act is read as it is spelled, at once and from some bytes.
pub record IsReadAgain (acts : ActSpelling) (arrays : Declared) (depth : ℕ) (act : Act) : Type 0 where
  pub starts : (behind : List ℕ) → step_of Plain false (front (acts.text act behind)) ≡ Stop
  pub longer : (behind : List ℕ) → length behind < length (acts.text act behind)
  pub again :
      (line : ℕ) (behind : List ℕ)
      → (token_at false (record { line = line; bytes = acts.text act behind }) >>= act_of arrays depth)
      ≡ Ok (act, record { line = line + acts.feeds act; bytes = behind })

-- ## Tokens

host_token : (line : ℕ) (rest : List ℕ) → token_at false (at_line line (104 ∷ 111 ∷ 115 ∷ 116 ∷ 32 ∷ rest)) ≡ Ok (lex (codes "host") line (32 ∷ rest))
unfolding token_at gap_at token_len
host_token line rest = refl

-- the end of the text
end_token : (line : ℕ) → token_at false (at_line line []) ≡ Ok (lex [] line [])
unfolding token_at gap_at token_len
end_token line = refl

no_gap : (line : ℕ) (bytes : List ℕ) → step_of Plain false (front bytes) ≡ Stop → gap_at Plain false line bytes ≡ Ok (at_line line bytes)
unfolding gap_at
no_gap line [] stops = refl
no_gap line (b ∷ bytes) stops = gap_stops Plain false line 0 (b ∷ bytes) (omega arith) stops

-- the token of so many bytes that begins at once
abbrev cut : ℕ → List ℕ → ℕ → Lexeme
cut line bytes n = record { text = take n bytes; line = line; after = record { line = line_after line (front bytes); bytes = drop n bytes } }

cut_line : (line : ℕ) (bytes : List ℕ) (t : Lexeme) (len : Result ℕ ReadFault) → (len >>= λ n. Ok (cut line bytes n)) ≡ Ok t → t.line ≡ line
cut_line line bytes t (Ok n) found = let same : t ≡ cut line bytes n = cc in ap (λ (t : Lexeme). t.line) same
cut_line line bytes t (Err fault) found = let no : ⊥ = cc in absurd no

-- A token without a gap before it has this line.
token_line : (line : ℕ) (bytes : List ℕ) (t : Lexeme) → step_of Plain false (front bytes) ≡ Stop → token_at false (at_line line bytes) ≡ Ok t → t.line ≡ line
unfolding token_at
token_line line bytes t stops here = cut_line line bytes t (token_len line bytes) (rw (no_gap line bytes stops) at here)

-- ## One statement

-- no act begins with a }
no_act : (arrays : Declared) (depth : ℕ) (t : Lexeme) → t.text ≡ codes "}" → act_of arrays depth t ≡ fails t.line Form
unfolding act_of simple_of array_of name_of
no_act arrays depth t is = rw is refl

-- an act that begins here
record ActHere (arrays : Declared) (depth line : ℕ) (act : Act) (at after : Spot) : Type 0 where
  token : Lexeme
  here : token_at false at ≡ Ok token
  same_line : token.line ≡ line
  no_brace : bytes_eq token.text (codes "}") ≡ false
  reads : act_of arrays depth token ≡ Ok (act, after)

brace_apart : (arrays : Declared) (depth : ℕ) (t : Lexeme) (act : Act) (after : Spot) → act_of arrays depth t ≡ Ok (act, after) → bytes_eq t.text (codes "}") ≡ false
brace_apart arrays depth t act after reads = false_from_ne_true (bytes_eq t.text (codes "}")) (λ same.
    let failed = no_act arrays depth t ((bytes_eq-Decides t.text (codes "}")).0 same) in
    let no : ⊥ = cc in no)

act_found : (arrays : Declared) (depth line : ℕ) (act : Act) (at after : Spot) (found : Result Lexeme ReadFault)
    → token_at false at ≡ found → (found >>= act_of arrays depth) ≡ Ok (act, after) → ((t : Lexeme) → token_at false at ≡ Ok t → t.line ≡ line)
    → ActHere arrays depth line act at after
act_found arrays depth line act at after (Ok t) here reads lines =
    record { token = t; here = here; same_line = lines t here; no_brace = brace_apart arrays depth t act after reads; reads = reads }
act_found arrays depth line act at after (Err fault) here reads lines = let no : ⊥ = cc in absurd no

act_read : (arrays : Declared) (b : Body) (line : ℕ) (act : Act) (at after : Spot) → ActHere arrays b.depth line act at after
    → statement_turn arrays b at ≡ Ok (turn true (with_statement b line act) after)
unfolding statement_turn
act_read arrays b line act at after is = rw (is.here, is.no_brace, is.reads, is.same_line) refl

end_read : (arrays : Declared) (b : Body) (line : ℕ) (at : Spot) (rest : List ℕ) → token_at false at ≡ Ok (lex (codes "}") line rest) → 1 ≤ b.depth
    → statement_turn arrays b at ≡ Ok (turn true (with_statement b line end_of_construct) (at_line line rest))
unfolding statement_turn
end_read arrays b line at rest here deep = rw (here, ne_eqb b.depth 0 (λ none. omega arith)) refl

body_end : (arrays : Declared) (b : Body) (line : ℕ) (at : Spot) (rest : List ℕ) → token_at false at ≡ Ok (lex (codes "}") line rest) → b.depth ≡ 0
    → statement_turn arrays b at ≡ Ok (turn false b (at_line line rest))
unfolding statement_turn
body_end arrays b line at rest here closed = rw (here, eq-eqb b.depth 0 closed) refl

-- ## Statements

module _ (acts : ActSpelling) where
  text_of_end : (act : Act) (behind : List ℕ) → is_end act ≡ true → act_text acts act behind ≡ 125 ∷ behind
  unfolding act_text
  text_of_end act behind is = ap (λ v. if v then 125 ∷ behind else acts.text act behind) is

  text_of_act : (act : Act) (behind : List ℕ) → is_end act ≡ false → act_text acts act behind ≡ acts.text act behind
  unfolding act_text
  text_of_act act behind is = ap (λ v. if v then 125 ∷ behind else acts.text act behind) is

  feeds_of_end : (act : Act) → is_end act ≡ true → feeds_of acts act ≡ 0
  unfolding feeds_of
  feeds_of_end act is = ap (λ v. if v then 0 else acts.feeds act) is

  feeds_of_act : (act : Act) → is_end act ≡ false → feeds_of acts act ≡ acts.feeds act
  unfolding feeds_of
  feeds_of_act act is = ap (λ v. if v then 0 else acts.feeds act) is

  no_end : (act : Act) (on : List ℕ) → ends_line act ≡ true → line_end act on ≡ on
  unfolding line_end
  no_end act on is = ap (λ v. if v then on else 10 ∷ on) is

  an_end : (act : Act) (on : List ℕ) → ends_line act ≡ false → line_end act on ≡ 10 ∷ on
  unfolding line_end
  an_end act on is = ap (λ v. if v then on else 10 ∷ on) is

  no_line : (act : Act) → ends_line act ≡ true → lines_of acts act ≡ feeds_of acts act
  unfolding lines_of
  no_line act is = ap (λ v. if v then feeds_of acts act else feeds_of acts act + 1) is

  a_line : (act : Act) → ends_line act ≡ false → lines_of acts act ≡ feeds_of acts act + 1
  unfolding lines_of
  a_line act is = ap (λ v. if v then feeds_of acts act else feeds_of acts act + 1) is

  end_long : (act : Act) (on : List ℕ) (v : Bool) → ends_line act ≡ v → length on ≤ length (line_end act on)
  end_long act on true is = rw (no_end act on is) (omega arith)
  end_long act on false is = rw (an_end act on is) (omega arith)

  module _ (arrays : Declared) where
    text_long : (depth : ℕ) (act : Act) (behind : List ℕ) (v : Bool) → is_end act ≡ v → CanStandAs (IsReadAgain acts arrays) depth act v
        → length behind < length (act_text acts act behind)
    text_long depth act behind true is can = rw (text_of_end act behind is) (omega arith)
    text_long depth act behind false is can = rw (text_of_act act behind is) (can.longer behind)

    act_here : (depth line : ℕ) (act : Act) (behind : List ℕ) → IsReadAgain acts arrays depth act
        → ActHere arrays depth line act (at_line line (acts.text act behind)) (at_line (line + acts.feeds act) behind)
    act_here depth line act behind is =
        act_found arrays depth line act (at_line line (acts.text act behind)) (at_line (line + acts.feeds act) behind)
        (token_at false (at_line line (acts.text act behind))) refl (is.again line behind)
        (λ t here. token_line line (acts.text act behind) t (is.starts behind) here)

    turn_by : (b : Body) (line : ℕ) (act : Act) (behind : List ℕ) (v : Bool) → is_end act ≡ v → CanStandAs (IsReadAgain acts arrays) b.depth act v
        → statement_turn arrays b (at_line line (act_text acts act behind))
        ≡ Ok (turn true (with_statement b line act) (at_line (line + feeds_of acts act) behind))
    turn_by b line act behind true is can =
        let none : line + 0 ≡ line = omega arith in
        let read = end_read arrays b line (at_line line (125 ∷ behind)) behind (last_brace line behind) can.1 in
        rw (text_of_end act behind is, feeds_of_end act is, none)
        (read ∙ ap (λ act. Ok (turn true (with_statement b line act) (at_line line behind))) (sym can.0))
    turn_by b line act behind false is can =
        rw (text_of_act act behind is, feeds_of_act act is)
        (act_read arrays b line act (at_line line (acts.text act behind)) (at_line (line + acts.feeds act) behind) (act_here b.depth line act behind can))

    -- a statement
    one_turn : (s : Statement) (old : List Statement) (depth line : ℕ) (behind : List ℕ) → s.line ≡ line → CanStandAs (IsReadAgain acts arrays) depth s.act (is_end s.act)
        → statement_turn arrays (body old depth) (at_line line (act_text acts s.act behind))
        ≡ Ok (turn true (body (old ++ s ∷ []) (depth_behind depth s.act)) (at_line (line + feeds_of acts s.act) behind))
    one_turn s old depth line behind same can =
        turn_by (body old depth) line s.act behind (is_end s.act) refl can
        ∙ ap (λ line'. Ok (turn true (with_statement (body old depth) line' s.act) (at_line (line + feeds_of acts s.act) behind))) (sym same)

    statement_behind_feed : (b : Body) (line : ℕ) (rest : List ℕ) → statement_turn arrays b (at_line line (10 ∷ rest)) ≡ statement_turn arrays b (at_line (line + 1) rest)
    unfolding statement_turn
    statement_behind_feed b line rest = rw (behind_feed line rest) refl

    -- the end of its line, where it has one
    behind_end : (b : Body) (act : Act) (line : ℕ) (on : List ℕ) (total : Result (Turn Body) ReadFault) (v : Bool) → ends_line act ≡ v
        → AllGive (statement_turn arrays) b (at_line (line + lines_of acts act) on) total
        → AllGive (statement_turn arrays) b (at_line (line + feeds_of acts act) (line_end act on)) total
    behind_end b act line on total true is all = rw (no_end act on is) (rw (no_line act is) at all)
    behind_end b act line on total false is all =
        let same : line + lines_of acts act ≡ line + feeds_of acts act + 1 = omega (arith, a_line act is) in
        rw (an_end act on is)
        (past (statement_turn arrays) b (at_line (line + feeds_of acts act) (10 ∷ on)) (at_line (line + feeds_of acts act + 1) on) total
        (statement_behind_feed b (line + feeds_of acts act) on) (omega arith) (rw same at all))

    statements_read : (left old : List Statement) (depth line : ℕ) (rest : List ℕ) → ArePlaced (IsReadAgain acts arrays) acts line depth left
        → AllGive (statement_turn arrays) (body old depth) (at_line line (spelled_statements acts left (125 ∷ rest)))
        (Ok (turn false (body (old ++ left) 0) (at_line (line_behind acts line left) rest)))
    unfolding spelled_statements line_behind
    statements_read [] old depth line rest closed =
        rw (closed, append-nil old)
        (last (statement_turn arrays) (body old 0) (body old 0) (at_line line (125 ∷ rest)) (at_line line rest)
        (body_end arrays (body old 0) line (at_line line (125 ∷ rest)) rest (last_brace line rest) refl))
    statements_read (s ∷ left) old depth line rest placed =
        let on : List ℕ = spelled_statements acts left (125 ∷ rest) in
        let longer = text_long depth s.act (line_end s.act on) (is_end s.act) refl placed.1 in
        let all = statements_read left (old ++ s ∷ []) (depth_behind depth s.act) (line + lines_of acts s.act) rest placed.2 in
        let same : (old ++ s ∷ []) ++ left ≡ old ++ s ∷ left = append_assoc old (s ∷ []) left in
        more (statement_turn arrays) (body old depth) (body (old ++ s ∷ []) (depth_behind depth s.act))
        (at_line line (act_text acts s.act (line_end s.act on))) (at_line (line + feeds_of acts s.act) (line_end s.act on)) _
        (one_turn s old depth line (line_end s.act on) placed.0 placed.1)
        longer
        (behind_end (body (old ++ s ∷ []) (depth_behind depth s.act)) s.act line on _ (ends_line s.act) refl (rw same at all))

    statements_long : (left : List Statement) (depth line : ℕ) (rest : List ℕ) → ArePlaced (IsReadAgain acts arrays) acts line depth left
        → length rest ≤ length (spelled_statements acts left rest)
    unfolding spelled_statements
    statements_long [] depth line rest closed = omega arith
    statements_long (s ∷ left) depth line rest placed =
        let on : List ℕ = spelled_statements acts left rest in
        let all = statements_long left (depth_behind depth s.act) (line + lines_of acts s.act) rest placed.2 in
        let end = end_long s.act on (ends_line s.act) refl in
        let one = text_long depth s.act (line_end s.act on) (is_end s.act) refl placed.1 in
        omega arith

    -- ## Hosts

    host_read : (p : HostProgram) (old : List HostProgram) (line : ℕ) (rest : List ℕ) → length old < MAX_HOSTS → p.host ≡ length old
        → ArePlaced (IsReadAgain acts arrays) acts (line + 1) 0 p.statements
        → host_turn arrays old (at_line line (104 ∷ 111 ∷ 115 ∷ 116 ∷ 32 ∷ 123 ∷ 10 ∷ spelled_statements acts p.statements (125 ∷ rest)))
        ≡ Ok (turn true (old ++ p ∷ []) (at_line (line_behind acts (line + 1) p.statements) rest))
    unfolding host_turn host_at expect exactly
    host_read p old line rest few number placed =
        let text : List ℕ = spelled_statements acts p.statements (125 ∷ rest) in
        let on : List ℕ = 10 ∷ text in
        let total : Result (Turn Body) ReadFault = Ok (turn false (body p.statements 0) (at_line (line_behind acts (line + 1) p.statements) rest)) in
        let all = past (statement_turn arrays) (body [] 0) (at_line line on) (at_line (line + 1) text) total
        (statement_behind_feed (body [] 0) line text) (omega arith) (statements_read p.statements [] 0 (line + 1) rest placed) in
        rw (
          host_token line (123 ∷ on),
          not_yet MAX_HOSTS (length old) few,
          opening_brace line on,
          all_give (statement_turn arrays) (body [] 0) (at_line line on) total all,
        ) (ap (λ host. Ok (turn true (old ++ record { host = host; statements = p.statements } ∷ []) (at_line (line_behind acts (line + 1) p.statements) rest))) (sym number))

    no_host : (old : List HostProgram) (line : ℕ) → host_turn arrays old (at_line line []) ≡ Ok (turn false old (at_line line []))
    unfolding host_turn
    no_host old line = rw (end_token line) refl

    host_behind_feed : (old : List HostProgram) (line : ℕ) (rest : List ℕ) → host_turn arrays old (at_line line (10 ∷ rest)) ≡ host_turn arrays old (at_line (line + 1) rest)
    unfolding host_turn
    host_behind_feed old line rest = rw (behind_feed line rest) refl

    -- the line that the text ends in
    end_line : ℕ → List HostProgram → ℕ
    end_line line [] = line
    end_line line (p ∷ left) = end_line (line_behind acts (line + 1) p.statements + 1) left

    hosts_read : (left old : List HostProgram) (line host : ℕ) → AreHosts (IsReadAgain acts arrays) acts line host left → host ≡ length old → length old + length left ≤ MAX_HOSTS
        → AllGive (host_turn arrays) old (at_line line (spelled_hosts acts left [])) (Ok (turn false (old ++ left) (at_line (end_line line left) [])))
    unfolding spelled_hosts end_line
    hosts_read [] old line host are number few =
        rw (append-nil old) (last (host_turn arrays) old old (at_line line []) (at_line line []) (no_host old line))
    hosts_read (p ∷ left) old line host are number few =
        let on : List ℕ = spelled_hosts acts left [] in
        let behind : ℕ = line_behind acts (line + 1) p.statements in
        let long = statements_long p.statements 0 (line + 1) (125 ∷ 10 ∷ on) are.1 in
        let all = hosts_read left (old ++ p ∷ []) (behind + 1) (host + 1) are.2 (omega (arith, length-append old (p ∷ []))) (omega (arith, length-append old (p ∷ []))) in
        let same : (old ++ p ∷ []) ++ left ≡ old ++ p ∷ left = append_assoc old (p ∷ []) left in
        more (host_turn arrays) old (old ++ p ∷ []) (at_line line (104 ∷ 111 ∷ 115 ∷ 116 ∷ 32 ∷ 123 ∷ 10 ∷ spelled_statements acts p.statements (125 ∷ 10 ∷ on))) (at_line behind (10 ∷ on)) _
        (host_read p old line (10 ∷ on) (omega arith) (are.0 ∙ number) are.1)
        (omega arith)
        (past (host_turn arrays) (old ++ p ∷ []) (at_line behind (10 ∷ on)) (at_line (behind + 1) on) _
        (host_behind_feed (old ++ p ∷ []) behind on) (omega arith) (rw same at all))

    -- ## The script

    -- what stands behind the arrays
    record IsNoArray (line : ℕ) (bytes : List ℕ) : Type 0 where
      next : Lexeme
      here : token_at false (at_line line bytes) ≡ Ok next
      other : bytes_eq next.text (codes "long") ≡ false

    hosts_begin : (left : List HostProgram) (line : ℕ) → IsNoArray line (spelled_hosts acts left [])
    unfolding spelled_hosts
    hosts_begin [] line = record { next = lex [] line []; here = end_token line; other = refl }
    hosts_begin (p ∷ left) line =
        let on : List ℕ = 123 ∷ 10 ∷ spelled_statements acts p.statements (125 ∷ 10 ∷ spelled_hosts acts left []) in
        record { next = lex (codes "host") line (32 ∷ on); here = host_token line on; other = refl }

    hosts_behind : (n : ℕ) (programs : List HostProgram) → AreHosts (IsReadAgain acts arrays) acts (1 + n) 0 programs → length programs ≤ MAX_HOSTS
        → AllGive (host_turn arrays) [] (behind_lines 1 n (spelled_hosts acts programs [])) (Ok (turn false programs (at_line (end_line (1 + n) programs) [])))
    hosts_behind zero programs are few = hosts_read programs [] 1 0 are refl (omega arith)
    hosts_behind (suc n) programs are few =
        let on : List ℕ = spelled_hosts acts programs [] in
        let lines : 1 + suc n ≡ 1 + n + 1 = omega arith in
        let are' : AreHosts (IsReadAgain acts arrays) acts (1 + n + 1) 0 programs = rw lines at are in
        rw lines (past (host_turn arrays) [] (at_line (1 + n) (10 ∷ on)) (at_line (1 + n + 1) on) _
        (host_behind_feed [] (1 + n) on) (omega arith) (hosts_read programs [] (1 + n + 1) 0 are' refl (omega arith)))

program_read : (acts : ActSpelling) (p : ScriptView) → IsSayableScript (IsReadAgain acts (declared p)) acts p → script_at (at_line 1 (spelled_script acts p)) ≡ Ok p
unfolding script_at spelled_script
program_read acts p said =
    let hosts_on : List ℕ = spelled_hosts acts p.programs [] in
    let begin = hosts_begin acts (declared p) p.programs (1 + length p.names) in
    rw (
      arrays_are_read_again (declared p) 1 hosts_on begin.next said.arrays said.names said.cells begin.here begin.other,
      all_give (host_turn (declared p)) [] (behind_lines 1 (length p.names) hosts_on) _ (hosts_behind acts (declared p) (length p.names) p.programs said.hosts said.few),
    ) refl

script_is_read_again : (acts : ActSpelling) (p : ScriptView) → IsSayableScript (IsReadAgain acts (declared p)) acts p → script_of (spelled_script acts p) ≡ Ok p
unfolding script_of
script_is_read_again acts p said =
    rw (le-ltb MAX_TEXT (length (spelled_script acts p)) said.short) (program_read acts p said)

-- ## Acts that can be said

-- where all acts that can be one can be the other
module _ (CanBe CanBe' : ℕ → Act → Type 0) (acts : ActSpelling) (weaker : (depth : ℕ) (act : Act) → CanBe depth act → CanBe' depth act) where
  stands_weaker : (depth : ℕ) (act : Act) (v : Bool) → CanStandAs CanBe depth act v → CanStandAs CanBe' depth act v
  stands_weaker depth act true can = can
  stands_weaker depth act false can = weaker depth act can

  placed_weaker : (left : List Statement) (line depth : ℕ) → ArePlaced CanBe acts line depth left → ArePlaced CanBe' acts line depth left
  placed_weaker [] line depth closed = closed
  placed_weaker (s ∷ left) line depth placed =
      (placed.0, stands_weaker depth s.act (is_end s.act) placed.1, placed_weaker left (line + lines_of acts s.act) (depth_behind depth s.act) placed.2)

  hosts_weaker : (left : List HostProgram) (line host : ℕ) → AreHosts CanBe acts line host left → AreHosts CanBe' acts line host left
  hosts_weaker [] line host are = tt
  hosts_weaker (p ∷ left) line host are =
      (are.0, placed_weaker p.statements (line + 1) 0 are.1, hosts_weaker left (line_behind acts (line + 1) p.statements + 1) (host + 1) are.2)

-- A script is read again as it is spelled, if each act that can be said is.
pub sayable_script_is_read_again : (CanBe : ℕ → Act → Type 0) (acts : ActSpelling) (p : ScriptView)
    → ((depth : ℕ) (act : Act) → CanBe depth act → IsReadAgain acts (declared p) depth act)
    → IsSayableScript CanBe acts p → script_of (spelled_script acts p) ≡ Ok p
sayable_script_is_read_again CanBe acts p each said =
    script_is_read_again acts p (record {
      arrays = said.arrays;
      names = said.names;
      cells = said.cells;
      hosts = hosts_weaker CanBe (IsReadAgain acts (declared p)) acts each p.programs (1 + length p.names) 0 said.hosts;
      few = said.few;
      short = said.short;
    })
