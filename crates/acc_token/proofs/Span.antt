-- Blanks, and the token behind them.
use Rattle.std.proofs.Common.{◌≡◌, ℕ, suc, ◌+◌, ◌<◌, Bool, true, false, List, [], ◌∷◌, Result, Ok, Err, sym, drop, refl, ap, ◌∙◌, arith}
use Rattle.std.specs.Prelude.{◌==◌, ◌&&◌, not, is_ok, if◌then◌else◌}
use Rattle.std.specs.List.{prefix_len}
use Rattle.std.proofs.lemmas.Bool.{false≢true, ne_eqb}
use Rattle.acc_token.proofs.GapAt.{gap_skips, gap_stops}
use Rattle.acc_token.proofs.TokenSpelling.{not_second}
use Rattle.acc_token.specs.declared.read_fault.ReadFault.{ReadFault}
use Rattle.acc_token.specs.declared.token.Gap.TheVariants.{Plain}
use Rattle.acc_token.specs.declared.token.Step.TheVariants.{Skip, Stop}
use Rattle.acc_token.specs.Tokens.{front, is_blank, line_after, step_of, gap_at, token_len, token_at}
use Rattle.acc_token.specs.inner.Spans.{spanned}

-- a blank is skipped, and ends no line
blank_skips : (in_directive : Bool) (line b : ℕ) (bytes : List ℕ) → is_blank b ≡ true
    → gap_at Plain in_directive line (b ∷ bytes) ≡ gap_at Plain in_directive line bytes
blank_skips in_directive line b bytes blank =
    let no_feed : (b == 10) ≡ false = ne_eqb b 10 (λ e. false≢true (rw e at blank)) in
    let skips : step_of Plain in_directive b ≡ Skip Plain = rw (no_feed, blank) refl in
    let same : gap_at Plain in_directive (line_after line b) bytes ≡ gap_at Plain in_directive line bytes = rw no_feed refl in
    gap_skips Plain Plain in_directive line 0 (b ∷ bytes) (omega arith) skips ∙ same

drop_past : (n b : ℕ) (bytes : List ℕ) → drop (1 + n) (b ∷ bytes) ≡ drop n bytes
drop_past n b bytes = let one : 1 + n ≡ suc n = omega arith in rw one refl

past_blanks : (in_directive : Bool) (line : ℕ) (bytes : List ℕ)
    → gap_at Plain in_directive line bytes ≡ gap_at Plain in_directive line (drop (prefix_len is_blank bytes) bytes)
past_blanks in_directive line [] = refl
past_blanks in_directive line (b ∷ bytes) = by (is_blank b) refl (past_blanks in_directive line bytes)
  where
    by : (v : Bool) → is_blank b ≡ v → gap_at Plain in_directive line bytes ≡ gap_at Plain in_directive line (drop (prefix_len is_blank bytes) bytes)
        → gap_at Plain in_directive line (b ∷ bytes) ≡ gap_at Plain in_directive line (drop (prefix_len is_blank (b ∷ bytes)) (b ∷ bytes))
    by true e rest = rw (e, drop_past (prefix_len is_blank bytes) b bytes) (blank_skips in_directive line b bytes e ∙ rest)
    by false e rest = rw e refl

-- behind the blanks stands none
no_blank : (bytes : List ℕ) → is_blank (front (drop (prefix_len is_blank bytes) bytes)) ≡ false
no_blank [] = refl
no_blank (b ∷ bytes) = by (is_blank b) refl (no_blank bytes)
  where
    by : (v : Bool) → is_blank b ≡ v → is_blank (front (drop (prefix_len is_blank bytes) bytes)) ≡ false
        → is_blank (front (drop (prefix_len is_blank (b ∷ bytes)) (b ∷ bytes))) ≡ false
    by true e rest = rw (e, drop_past (prefix_len is_blank bytes) b bytes) rest
    by false e rest = rw e e

found : Result ℕ ReadFault → ℕ
found (Ok n) = n
found (Err fault) = 0

and_true_right : (b : Bool) → (b && true) ≡ false → b ≡ false
and_true_right true e = absurd (false≢true (sym e))
and_true_right false e = refl

-- no token begins with a slash
no_slash : (line count : ℕ) (bytes : List ℕ) → token_len line (47 ∷ bytes) ≡ Ok count → false ≡ true
unfolding token_len
no_slash line count bytes len = ap (λ (r : Result ℕ ReadFault). is_ok r) (rw (not_second (front bytes == 61)) at len)

-- a token that stands at once, unless it is a line feed that counts for nothing
token_begins : (in_directive : Bool) (line count : ℕ) (from : List ℕ) → 0 < count → token_len line from ≡ Ok count
    → is_blank (front from) ≡ false → (front from == 10 && not in_directive) ≡ false
    → gap_at Plain in_directive line from ≡ Ok (record { line = line; bytes = from })
unfolding token_len found
token_begins in_directive line count [] some len blank feed =
    let none : 0 ≡ count = ap (λ (r : Result ℕ ReadFault). found r) len in absurd (omega (arith, some, none))
token_begins in_directive line count (b ∷ bytes) some len blank feed =
    let slash : (b == 47) ≡ false = ne_eqb b 47 (λ e. false≢true (no_slash line count bytes (rw e at len))) in
    let stops : step_of Plain in_directive b ≡ Stop = rw (feed, blank, slash) refl in
    gap_stops Plain in_directive line 0 (b ∷ bytes) (omega arith) stops

-- the line behind a token
line_behind : (in_directive : Bool) (line b : ℕ) → (b == 10 && not in_directive) ≡ false
    → (if in_directive then line_after line b else line) ≡ line_after line b
line_behind true line b feed = refl
line_behind false line b feed = rw (and_true_right (b == 10) feed) refl

pub span_token : (in_directive : Bool) (line count : ℕ) (bytes : List ℕ) → 0 < count
    → token_len line (drop (prefix_len is_blank bytes) bytes) ≡ Ok count
    → (front (drop (prefix_len is_blank bytes) bytes) == 10 && not in_directive) ≡ false
    → token_at in_directive (record { line = line; bytes = bytes }) ≡ Ok (spanned in_directive line (prefix_len is_blank bytes) count bytes)
unfolding token_at
span_token in_directive line count bytes some len feed =
    let from : List ℕ = drop (prefix_len is_blank bytes) bytes in
    rw (past_blanks in_directive line bytes, token_begins in_directive line count from some len (no_blank bytes) feed, len, line_behind in_directive line (front from) feed) refl
