-- The lines of statements, one statement after another.
use Rattle.std.proofs.Common.{◌≡◌, ℕ, ◌+◌, ◌<◌, List, ◌∷◌, ◌++◌, length, drop, get_or, sym, ap, ◌∙◌}
use Rattle.std.specs.List.{flat_map}
use Rattle.std.proofs.lemmas.Grind.{flat_map-append}
use Rattle.std.proofs.lemmas.List.{append_assoc, drop_more}
use Rattle.acc_host.specs.declared.program.Statement.{Statement}
use Rattle.acc_host.specs.Engines.{HostEntry}
use Rattle.acc_report.specs.Lines.{line_text}
use Rattle.acc_report.specs.Prints.{device_after, entries_taken, statement_lines, printed_lines}
use Rattle.acc_report.specs.Puts.{Puts, Sink}
use Rattle.acc_report.proofs.JoinedPuts.{puts_then}

-- the lines of what is left
abbrev pub left_text : ℕ → ℕ → List Statement → List HostEntry → List ℕ
left_text devices device statements es = flat_map line_text (printed_lines devices device statements es)

-- So much is put, and it is all the text with what is left.
pub record IsPut (old new : Sink) (left total : List ℕ) : Type 0 where
  pub done : List ℕ
  pub puts : Puts old new done
  pub whole : done ++ left ≡ total

one_line : (devices device : ℕ) (s : Statement) (statements : List Statement) (es : List HostEntry)
    → left_text devices device (s ∷ statements) es ≡ flat_map line_text (statement_lines devices device s.act es) ++ left_text devices (device_after s.act device) statements (drop (entries_taken s.act es) es)
one_line devices device s statements es =
    flat_map-append line_text (statement_lines devices device s.act es) (printed_lines devices (device_after s.act device) statements (drop (entries_taken s.act es) es))

-- a statement more
pub put_more : (old mid new : Sink) (devices device next i : ℕ) (s : Statement) (statements : List Statement) (es left : List HostEntry) (total : List ℕ)
    → i < length statements → s ≡ get_or statements i s → next ≡ device_after s.act device → left ≡ drop (entries_taken s.act es) es
    → IsPut old mid (left_text devices device (drop i statements) es) total → Puts mid new (flat_map line_text (statement_lines devices device s.act es))
    → IsPut old new (left_text devices next (drop (i + 1) statements) left) total
put_more old mid new devices device next i s statements es left total low is behind taken before puts =
    let line = flat_map line_text (statement_lines devices device s.act es) in
    let rest = left_text devices (device_after s.act device) (drop (i + 1) statements) (drop (entries_taken s.act es) es) in
    let here : drop i statements ≡ s ∷ drop (i + 1) statements = drop_more statements i s low ∙ ap (λ (x : Statement). x ∷ drop (i + 1) statements) (sym is) in
    let split : left_text devices device (drop i statements) es ≡ line ++ rest = ap (λ (ss : List Statement). left_text devices device ss es) here ∙ one_line devices device s (drop (i + 1) statements) es in
    let same : left_text devices next (drop (i + 1) statements) left ≡ rest =
    ap (λ (d : ℕ). left_text devices d (drop (i + 1) statements) left) behind ∙ ap (λ (xs : List HostEntry). left_text devices (device_after s.act device) (drop (i + 1) statements) xs) taken in
    record {
      done = before.done ++ line;
      puts = puts_then before.puts puts;
      whole = ap (λ (r : List ℕ). (before.done ++ line) ++ r) same ∙ (append_assoc before.done line rest ∙ (ap (λ (r : List ℕ). before.done ++ r) (sym split) ∙ before.whole));
    }
