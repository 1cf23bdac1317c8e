-- Lines that are put one after another.
use Rattle.std.proofs.Common.{◌≡◌, ℕ, ◌+◌, ◌<◌, ◌≤◌, true, false, List, ◌∷◌, ◌++◌, length, drop, get_or, append_assoc, sym, ap, subst, ◌∙◌, arith}
use Rattle.std.specs.Prelude.{nat_lt}
use Rattle.std.proofs.lemmas.Bool.{and_parts, ltb-true}
use Rattle.std.proofs.lemmas.List.{at_drop_all, at_drop_more}
use Rattle.acc_host.specs.declared.event.Event.{Event}
use Rattle.acc_report.proofs.JoinedPuts.{puts_then}
use Rattle.acc_report.specs.Puts.{Puts, Sink}
use Rattle.acc_schedule.specs.declared.turn.TheConstants.{MAX_TIMES}
use Rattle.acc_explore.specs.Spellings.{goes_on_alike, joins, event_line, lines_from}

-- Of a text a beginning was put, and this is left.
pub record IsPutUpTo (old new : Sink) (text rest : List ℕ) : Type 0 where
  pub done : List ℕ
  pub puts : Puts old new done
  pub whole : text ≡ done ++ rest

pub more_put : {a b c : Sink} (text more rest : List ℕ) → IsPutUpTo a b text (more ++ rest) → Puts b c more → IsPutUpTo a c text rest
more_put text more rest so_far next = record {
  done = so_far.done ++ more;
  puts = puts_then so_far.puts next;
  whole = so_far.whole ∙ sym (append_assoc so_far.done more rest);
}

pub rest_put : {a b c : Sink} (text rest : List ℕ) → IsPutUpTo a b text rest → Puts b c rest → Puts a c text
rest_put text rest so_far last = rw so_far.whole (puts_then so_far.puts last)

-- ## Lines of events

-- one that joins a line comes at most so often as a line can say
pub few_joined : (e x : Event) (n : ℕ) → joins e n x ≡ true → n + 1 ≤ MAX_TIMES
few_joined e x n joined =
    let low = ltb-true n MAX_TIMES (and_parts (goes_on_alike e x) (nat_lt n MAX_TIMES) joined).1 in
    omega (arith, low)

module _ {a b : Sink} (text : List ℕ) (e x : Event) (n i : ℕ) (others : List Event) (low : i < length others) (is : x ≡ get_or others i x)
    (so_far : IsPutUpTo a b text (lines_from e n (drop i others))) where
  next_left : IsPutUpTo a b text (lines_from e n (x ∷ drop (i + 1) others))
  next_left =
      subst (λ (rest : List ℕ). IsPutUpTo a b text rest)
      (at_drop_more (λ (left : List Event). lines_from e n left) others i x low ∙ ap (λ y. lines_from e n (y ∷ drop (i + 1) others)) (sym is)) so_far

  -- an event joins those before it
  pub line_goes_on : joins e n x ≡ true → IsPutUpTo a b text (lines_from e (n + 1) (drop (i + 1) others))
  line_goes_on joined = rw joined at next_left

  -- it begins a line, and the one before it is put
  pub line_ends : {c : Sink} → joins e n x ≡ false → Puts b c (event_line e n) → IsPutUpTo a c text (lines_from x 1 (drop (i + 1) others))
  line_ends apart puts = more_put text (event_line e n) (lines_from x 1 (drop (i + 1) others)) (rw apart at next_left) puts

-- the last line is put
pub last_line : {a b c : Sink} (text : List ℕ) (e : Event) (n i : ℕ) (others : List Event) → length others ≤ i
    → IsPutUpTo a b text (lines_from e n (drop i others)) → Puts b c (event_line e n) → Puts a c text
last_line {a} {b} {c} text e n i others all so_far puts =
    rest_put text (event_line e n) (subst (λ (rest : List ℕ). IsPutUpTo a b text rest) (at_drop_all (λ (left : List Event). lines_from e n left) others i all) so_far) puts
