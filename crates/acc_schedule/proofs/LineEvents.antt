-- The events behind a line, by what was read of it.
use Rattle.std.proofs.Common.{◌≡◌, ℕ, ◌+◌, ◌<◌, ◌≤◌, true, false, List, [], ◌∷◌, ◌++◌, length, Ok, Err, refl, ap, ◌∙◌, arith}
use Rattle.std.proofs.lemmas.Bool.{lt-ltb}
use Rattle.std.proofs.lemmas.Bool.Decides.{nat_tests}
use Rattle.std.specs.Prelude.{nat_lt}
use Rattle.acc_host.specs.declared.event.Event.{Event}
use Rattle.acc_token.specs.declared.read_fault.ReadKind.{ReadKind}
use Rattle.acc_token.specs.declared.read_fault.ReadKind.TheVariants.{Limit}
use Rattle.acc_schedule.specs.declared.turn.ScheduleLine.{ScheduleLine}
use Rattle.acc_schedule.specs.declared.schedule.TheConstants.{MAX_EVENTS}
use Rattle.acc_token.specs.Faults.{fails}
use Rattle.acc_schedule.specs.Schedules.{is_skipped, line_events, events_behind, kept_events, all_events}
use Rattle.std.proofs.lemmas.Grind.{flat_map-append}
use Rattle.std.proofs.lemmas.List.{append-nil}

-- one line more
pub one_more : (round : List Event) (kept : List ScheduleLine) (line : ScheduleLine)
    → all_events round (kept ++ line ∷ []) ≡ all_events round kept ++ kept_events round line
one_more round kept line =
    flat_map-append (kept_events round) kept (line ∷ [])
    ∙ ap (λ events. all_events round kept ++ events) (append-nil (kept_events round line))

module _ (hosts devices number : ℕ) (events more : List Event) (line : List ℕ) where
  pub too_many_behind : (count : ℕ)
      → is_skipped line ≡ false → line_events hosts devices line ≡ Ok more → count ≡ length events + length more
      → MAX_EVENTS < count → events_behind hosts devices number events line ≡ fails number Limit
  unfolding events_behind
  too_many_behind count is read all many =
      let over : nat_lt MAX_EVENTS (length events + length more) ≡ true = lt-ltb MAX_EVENTS (length events + length more) (omega arith) in
      rw (is, read, over) refl

  pub few_behind : (count : ℕ)
      → is_skipped line ≡ false → line_events hosts devices line ≡ Ok more → count ≡ length events + length more
      → count ≤ MAX_EVENTS → events_behind hosts devices number events line ≡ Ok (events ++ more)
  unfolding events_behind
  few_behind count is read all few =
      let under : nat_lt MAX_EVENTS (length events + length more) ≡ false = grind (arith, nat_tests) in
      rw (is, read, under) refl

pub faulty_behind : (hosts devices number : ℕ) (events : List Event) (line : List ℕ) (kind : ReadKind)
    → is_skipped line ≡ false → line_events hosts devices line ≡ Err kind → events_behind hosts devices number events line ≡ fails number kind
unfolding events_behind
faulty_behind hosts devices number events line kind is read = rw (is, read) refl
