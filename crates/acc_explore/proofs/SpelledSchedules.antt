-- A schedule that is spelled out is read again.
use Rattle.std.proofs.Common.{inl, inr, ◌≡◌, ℕ, ◌+◌, ◌^◌, ◌<◌, ◌≤◌, Bool, true, false, List, [], ◌∷◌, ◌++◌, length, Ok, Err, append_assoc, length-append, refl, sym, ap, subst, ◌∙◌, arith}
use Rattle.std.specs.Prelude.{◌==◌, nat_lt, ◌&&◌, All}
use Rattle.std.specs.List.{list_all, onto_first, slice_split}
use Rattle.std.proofs.lemmas.Bool.{and_parts, cases_Bool, eqb-true, false≢true, le-ltb, ltb-true}
use Rattle.std.proofs.lemmas.Bool.Decides.{nat_tests}
use Rattle.std.proofs.lemmas.List.{append-nil}
use Rattle.std.proofs.lemmas.List.Elements.{All-head, All-tail, All-weaker}
use Rattle.std.proofs.lemmas.List.Sums.{AllPass-from_list_all}
use Rattle.acc_base.specs.declared.ids.QueueAt.{QueueAt}
use Rattle.acc_base.specs.Queues.{same_queue}
use Rattle.std.proofs.lemmas.List.Splits.{length-slice_split, slice_split-cons_yes, slice_split_at}
use Rattle.acc_host.specs.declared.event.Event.{Event}
use Rattle.acc_host.specs.declared.event.Event.TheVariants.{Host, Take, Perform, Close}
use Rattle.acc_schedule.proofs.LineEvents.{few_behind}
use Rattle.acc_schedule.proofs.RepeatedTurns.{repeated-next}
use Rattle.acc_schedule.specs.declared.schedule.TheConstants.{MAX_EVENTS}
use Rattle.acc_schedule.specs.declared.turn.TheConstants.{MAX_TIMES}
use Rattle.acc_schedule.specs.Schedules.{events_behind, events_from, is_line_byte, is_skipped, line_events, lines, repeated, schedule_of}
use Rattle.acc_token.specs.declared.text.TheConstants.{MAX_TEXT}
use Rattle.acc_token.specs.Faults.{◌>>=◌}
use Rattle.acc_explore.specs.Spellings.{IsNamed, SpelledIsRead, event_words, goes_on_alike, going_on, lines_from, event_line, schedule_text, times_text}
use Rattle.acc_explore.proofs.SpelledLines.{IsTimes, line_read, spelled_line}

-- ## Lines behind lines

module _ (parts : ℕ → Bool) where
  onto_front : (b : ℕ) (pieces more : List (List ℕ)) → 1 ≤ length pieces → onto_first b pieces ++ more ≡ onto_first b (pieces ++ more)
  onto_front b [] more some = absurd (omega (arith, some))
  onto_front b (piece ∷ pieces) more some = refl

  -- the pieces before a byte that parts, and those behind it
  split-append : (bs : List ℕ) (y : ℕ) (more : List ℕ) → parts y ≡ true → slice_split parts (bs ++ y ∷ more) ≡ slice_split parts bs ++ slice_split parts more
  split-append [] y more e = slice_split-cons_yes parts y more e
  split-append (b ∷ bs) y more e = by (parts b) refl (split-append bs y more e)
    where
      by : (v : Bool) → parts b ≡ v → slice_split parts (bs ++ y ∷ more) ≡ slice_split parts bs ++ slice_split parts more
          → slice_split parts ((b ∷ bs) ++ y ∷ more) ≡ slice_split parts (b ∷ bs) ++ slice_split parts more
      by true is later = rw (is, later) refl
      by false is later =
          rw (is, later) (sym (onto_front b (slice_split parts bs) (slice_split parts more) (omega (arith, length-slice_split parts bs))))

module _ (hosts devices : ℕ) where
  -- the events of lines, and of those behind them
  events-append : (number : ℕ) (so_far : List Event) (old new : List (List ℕ))
      → events_from hosts devices number so_far (old ++ new)
      ≡ (events_from hosts devices number so_far old >>= λ more. events_from hosts devices (number + length old) more new)
  events-append number so_far [] new = let same : number + 0 ≡ number = omega arith in rw same refl
  events-append number so_far (line ∷ old) new = elim (events_behind hosts devices number so_far line)
      as (λ r.
      (r >>= λ more. events_from hosts devices (number + 1) more (old ++ new))
      ≡ ((r >>= λ more. events_from hosts devices (number + 1) more old) >>= λ more. events_from hosts devices (number + length (line ∷ old)) more new)) [
        | Ok more ↦ let same : number + 1 + length old ≡ number + length (line ∷ old) = omega arith in rw same at (events-append (number + 1) more old new)
        | Err fault ↦ refl
      ]

-- ## A line

starts : (e : Event) (n : ℕ) → is_skipped (spelled_line e n) ≡ false
unfolding event_words
starts (Host h) n = refl
starts (Take at) n = refl
starts (Perform at) n = refl
starts Close n = refl

-- a line that is read has plain bytes alone
read_plain : (hosts devices : ℕ) (line : List ℕ) (events : List Event) → line_events hosts devices line ≡ Ok events → list_all is_line_byte line ≡ true
unfolding line_events
read_plain hosts devices line events read = elim (cases_Bool (list_all is_line_byte line)) [
  | inl plain ↦ plain
  | inr other ↦ let failed = rw other at read in absurd cc
]

no_line_feed : (b : ℕ) → is_line_byte b ≡ true → (b == 10) ≡ false
no_line_feed b plain = grind (arith, nat_tests)

ended : (e : Event) (n : ℕ) (rest : List ℕ) → event_line e n ++ rest ≡ spelled_line e n ++ 10 ∷ rest
unfolding event_line
ended e n rest =
    append_assoc (event_words e) (times_text n ++ 10 ∷ []) rest
    ∙ ap (λ bytes. event_words e ++ bytes) (append_assoc (times_text n) (10 ∷ []) rest)
    ∙ sym (append_assoc (event_words e) (times_text n) (10 ∷ rest))

one_queue : (at to : QueueAt) → same_queue at to ≡ true → at ≡ to
one_queue at to is =
    let parts = and_parts (at.device == to.device) (at.queue == to.queue) is in
    let device = eqb-true at.device to.device parts.0 in
    let queue = eqb-true at.queue to.queue parts.1 in
    λ i. record { device = device i; queue = queue i }

one_time : (e : Event) → IsTimes e 1
one_time (Host h) = (omega arith, omega arith)
one_time (Take at) = (omega arith, omega arith)
one_time (Perform at) = (omega arith, omega arith)
one_time Close = refl

-- what goes on is the same event, which may come once more
record IsAgain (e x : Event) (n : ℕ) : Type 0 where
  same : e ≡ x
  times : IsTimes e (n + 1)

again : (e x : Event) (n : ℕ) → goes_on_alike e x ≡ true → IsTimes e n → n < MAX_TIMES → IsAgain e x n
again (Host h) (Host k) n is times low = record { same = ap (λ (i : ℕ). Host i) (eqb-true h k is); times = (omega arith, omega (arith, low)) }
again (Take at) (Take to) n is times low =
    let same = one_queue at to is in
    record { same = ap (λ (q : QueueAt). Take q) same; times = (omega arith, omega (arith, low)) }
again (Perform at) (Perform to) n is times low =
    let same = one_queue at to is in
    record { same = ap (λ (q : QueueAt). Perform q) same; times = (omega arith, omega (arith, low)) }
again e x n is times low = absurd (false≢true is)

-- ## All lines

module _ (hosts devices : ℕ) (host_few : hosts < 2 ^ 8) (device_few : devices < 2 ^ 8) where
  one_line : (number : ℕ) (so_far : List Event) (e : Event) (n : ℕ) (rest : List ℕ) → IsNamed hosts devices e → IsTimes e n
      → length (so_far ++ repeated n (e ∷ [])) ≤ MAX_EVENTS
      → events_from hosts devices number so_far (lines (event_line e n ++ rest))
      ≡ events_from hosts devices (number + 1) (so_far ++ repeated n (e ∷ [])) (lines rest)
  one_line number so_far e n rest there times few =
      let line = spelled_line e n in
      let read = line_read hosts devices e n host_few device_few there times in
      let plain = AllPass-from_list_all is_line_byte line (read_plain hosts devices line (repeated n (e ∷ [])) read) in
      let whole = All-weaker (λ (b : ℕ). is_line_byte b ≡ true) (λ (b : ℕ). (b == 10) ≡ false) no_line_feed line plain in
      let apart : lines (line ++ 10 ∷ rest) ≡ line ∷ lines rest = slice_split_at (λ b. b == 10) line 10 rest whole refl in
      let behind = few_behind hosts devices number so_far (repeated n (e ∷ [])) line (length (so_far ++ repeated n (e ∷ []))) (starts e n) read
      (length-append so_far (repeated n (e ∷ []))) few in
      rw (ended e n rest, apart, behind) refl

  spelled_read : (number : ℕ) (so_far : List Event) (e : Event) (n : ℕ) (events : List Event) → IsNamed hosts devices e → IsTimes e n
      → All (IsNamed hosts devices) events → length (so_far ++ (repeated n (e ∷ []) ++ events)) ≤ MAX_EVENTS
      → events_from hosts devices number so_far (lines (lines_from e n events)) ≡ Ok (so_far ++ (repeated n (e ∷ []) ++ events))
  unfolding events_behind
  spelled_read number so_far e n [] there times all few =
      let none : repeated n (e ∷ []) ++ [] ≡ repeated n (e ∷ []) = append-nil (repeated n (e ∷ [])) in
      let line = one_line number so_far e n [] there times (rw none at few) in
      rw none (rw (append-nil (event_line e n)) at line)
  spelled_read number so_far e n (x ∷ events) there times all few = elim (cases_Bool (goes_on_alike e x && nat_lt n MAX_TIMES)) [
    | inl on ↦ (
        let parts = and_parts (goes_on_alike e x) (nat_lt n MAX_TIMES) on in
        let next = again e x n parts.0 times (ltb-true n MAX_TIMES parts.1) in
        let whole : so_far ++ (repeated (n + 1) (e ∷ []) ++ events) ≡ so_far ++ (repeated n (e ∷ []) ++ x ∷ events) =
        ap (λ es. so_far ++ es)
        (ap (λ es. es ++ events) (repeated-next (e ∷ []) n) ∙ append_assoc (repeated n (e ∷ [])) (e ∷ []) events
        ∙ ap (λ y. repeated n (e ∷ []) ++ y ∷ events) next.same) in
        let read = spelled_read number so_far e (n + 1) events there next.times (All-tail (IsNamed hosts devices) x events all)
        (subst (λ (es : List Event). length es ≤ MAX_EVENTS) (sym whole) few) in
        rw on (read ∙ ap (λ es. Ok es) whole)
        )
    | inr end ↦ (
        let here = so_far ++ repeated n (e ∷ []) in
        let whole : here ++ x ∷ events ≡ so_far ++ (repeated n (e ∷ []) ++ x ∷ events) = append_assoc so_far (repeated n (e ∷ [])) (x ∷ events) in
        let few_on : length (here ++ x ∷ events) ≤ MAX_EVENTS = subst (λ (es : List Event). length es ≤ MAX_EVENTS) (sym whole) few in
        let few_here : length here ≤ MAX_EVENTS = omega (arith, few_on, length-append here (x ∷ events)) in
        let line = one_line number so_far e n (lines_from x 1 events) there times few_here in
        let read = spelled_read (number + 1) here x 1 events (All-head (IsNamed hosts devices) x events all) (one_time x) (All-tail (IsNamed hosts devices) x events all) few_on in
        rw end (line ∙ read ∙ ap (λ es. Ok es) whole)
        )
  ]

  schedule_read : (number : ℕ) (so_far events : List Event) → All (IsNamed hosts devices) events → length (so_far ++ events) ≤ MAX_EVENTS
      → events_from hosts devices number so_far (lines (schedule_text events)) ≡ Ok (so_far ++ events)
  unfolding events_behind
  schedule_read number so_far [] all few = ap (λ es. Ok es) (sym (append-nil so_far))
  schedule_read number so_far (e ∷ events) all few =
      spelled_read number so_far e 1 events (All-head (IsNamed hosts devices) e events all) (one_time e) (All-tail (IsNamed hosts devices) e events all) few

  -- behind other lines
  read_behind : (text : List ℕ) (before events : List Event) → events_from hosts devices 1 [] (lines text) ≡ Ok before
      → All (IsNamed hosts devices) events → length (before ++ events) ≤ MAX_EVENTS
      → events_from hosts devices 1 [] (lines (text ++ 10 ∷ schedule_text events)) ≡ Ok (before ++ events)
  read_behind text before events read all few =
      let number = 1 + length (lines text) in
      ap (λ ls. events_from hosts devices 1 [] ls) (split-append (λ b. b == 10) text 10 (schedule_text events) refl)
      ∙ events-append hosts devices 1 [] (lines text) (lines (schedule_text events))
      ∙ ap (λ r. r >>= λ more. events_from hosts devices number more (lines (schedule_text events))) read
      ∙ schedule_read number before events all few

short_read : (hosts devices : ℕ) (text : List ℕ) → length text ≤ MAX_TEXT → schedule_of hosts devices text ≡ events_from hosts devices 1 [] (lines text)
unfolding schedule_of
short_read hosts devices text short = rw (le-ltb MAX_TEXT (length text) short) refl

-- an empty text says nothing
says_nothing : (hosts devices : ℕ) → schedule_of hosts devices [] ≡ Ok []
unfolding schedule_of events_behind
says_nothing hosts devices = refl

pub spelled_is_read : SpelledIsRead
spelled_is_read hosts devices [] before events host_few device_few read all short few =
    let nothing : Ok [] ≡ Ok before = sym (says_nothing hosts devices) ∙ read in
    let few_alone : length events ≤ MAX_EVENTS = omega (arith, few, length-append before events) in
    let alone = schedule_read hosts devices host_few device_few 1 [] events all few_alone in
    short_read hosts devices (schedule_text events) short ∙ alone ∙ ap (λ r. r >>= λ more. Ok (more ++ events)) nothing
spelled_is_read hosts devices (b ∷ bs) before events host_few device_few read all short few =
    let first : length (b ∷ bs) ≤ MAX_TEXT = omega (arith, short, length-append (b ∷ bs) (10 ∷ schedule_text events)) in
    short_read hosts devices ((b ∷ bs) ++ 10 ∷ schedule_text events) short
    ∙ read_behind hosts devices host_few device_few (b ∷ bs) before events (sym (short_read hosts devices (b ∷ bs) first) ∙ read) all few

-- behind a text that is not empty
pub goes_behind : (text : List ℕ) (events : List Event) → 1 ≤ length text → going_on text events ≡ text ++ 10 ∷ schedule_text events
goes_behind [] events some = absurd (omega (arith, some))
goes_behind (b ∷ bs) events some = refl
