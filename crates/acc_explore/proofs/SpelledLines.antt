-- A line that is spelled out is read as its event, so many times.
use Rattle.std.proofs.Common.{◌≡◌, ℕ, ◌^◌, ◌<◌, ◌≤◌, Bool, true, false, List, [], ◌∷◌, ◌++◌, Ok, append_assoc, refl, sym, ap, ◌∙◌, arith}
use Rattle.std.specs.Prelude.{◌==◌, Some, codes, decimal, if◌then◌else◌}
use Rattle.std.specs.List.{list_all}
use Rattle.std.proofs.lemmas.Bool.{eqb-true, le-ltb, lt-ltb, ne_eqb}
use Rattle.std.proofs.lemmas.List.{append-nil}
use Rattle.std.proofs.lemmas.List.Folds.{list_all-append}
use Rattle.acc_base.specs.declared.ids.QueueAt.{QueueAt}
use Rattle.acc_base.specs.declared.ids.TheConstants.{QUEUES}
use Rattle.acc_host.specs.declared.event.Event.{Event}
use Rattle.acc_host.specs.declared.event.Event.TheVariants.{Host, Take, Perform, Close}
use Rattle.acc_report.specs.Lines.{queue_name}
use Rattle.acc_schedule.specs.declared.turn.TheConstants.{MAX_TIMES}
use Rattle.acc_schedule.specs.Schedules.{asked_turn, close_events, events_of, is_line_byte, host_events, line_events, queue_events, repeated, times_of, times_word, words}
use Rattle.acc_token.proofs.TokenSpelling.{IsNumber, is_number}
use Rattle.acc_explore.specs.Spellings.{IsNamed, event_words, queue_words, times_text}
use Rattle.acc_explore.proofs.SpelledWords.{IsWord, is_word, number_read, queue_word, value_read, words_last, words_next}

plain_join : (old new : List ℕ) → list_all is_line_byte old ≡ true → list_all is_line_byte new ≡ true → list_all is_line_byte (old ++ new) ≡ true
plain_join old new first second = rw (list_all-append is_line_byte old new, first, second) refl

-- ## How often

-- an event may come so many times in a row
abbrev pub IsTimes : Event → ℕ → Type 0
IsTimes Close n = n ≡ 1
IsTimes e n = (1 ≤ n) × (n ≤ MAX_TIMES)

abbrev times_words : ℕ → List (List ℕ)
times_words n = if n == 1 then [] else decimal n ∷ []

times_plain : (n : ℕ) → n ≤ MAX_TIMES → list_all is_line_byte (times_text n) ≡ true
unfolding times_text
times_plain n few = by (n == 1) refl
  where
    by : (v : Bool) → (n == 1) ≡ v → list_all is_line_byte (times_text n) ≡ true
    by true e = rw e refl
    by false e = rw e (is_word n (decimal n) (is_number n (omega (arith, few)))).plain

-- the word that says it, behind another
times_behind : (word : List ℕ) (n : ℕ) → IsWord word → n ≤ MAX_TIMES → words (word ++ times_text n) ≡ word ∷ times_words n
unfolding times_text
times_behind word n is few = by (n == 1) refl
  where
    by : (v : Bool) → (n == 1) ≡ v → words (word ++ times_text n) ≡ word ∷ times_words n
    by true e = rw (e, append-nil word) (words_last word is)
    by false e =
        let digits = is_word n (decimal n) (is_number n (omega (arith, few))) in
        rw e (words_next word (decimal n) is ∙ ap (λ others. word ∷ others) (words_last (decimal n) digits))

asked : (turn : List Event) (n : ℕ) → 1 ≤ n → n ≤ MAX_TIMES → asked_turn true (Some turn) (times_word (times_words n)) ≡ Ok (repeated n turn)
unfolding times_of
asked turn n some few = by (n == 1) refl
  where
    digits : (ds : List ℕ) → IsNumber n ds → asked_turn true (Some turn) (Some ds) ≡ Ok (repeated n turn)
    digits ds is = rw (number_read n ds is, value_read n ds is, ne_eqb n 0 (λ e. omega (arith, some)), le-ltb MAX_TIMES n few) refl

    by : (v : Bool) → (n == 1) ≡ v → asked_turn true (Some turn) (times_word (times_words n)) ≡ Ok (repeated n turn)
    by true e = rw e (sym (ap (λ k. Ok (repeated k turn)) (eqb-true n 1 e)))
    by false e = rw e (digits (decimal n) (is_number n (omega (arith, few))))

-- ## Lines

close_read : (hosts devices : ℕ) → line_events hosts devices (codes "close" ++ times_text 1) ≡ Ok (Close ∷ [])
unfolding line_events events_of close_events times_text
close_read hosts devices = refl

-- what stands behind the first word where a queue's event comes so many times
abbrev queue_text : ℕ → ℕ → List ℕ → List ℕ
queue_text n queue ds = ds ++ 32 ∷ (queue_name queue ++ times_text n)

module _ (hosts devices n : ℕ) (some : 1 ≤ n) (few : n ≤ MAX_TIMES) where
  host_read : (h : ℕ) (ds : List ℕ) → h < hosts → IsNumber h ds → line_events hosts devices (codes "host " ++ (ds ++ times_text n)) ≡ Ok (repeated n (Host h ∷ []))
  unfolding line_events events_of host_events
  host_read h ds low is =
      let word = is_word h ds is in
      let plain = plain_join ds (times_text n) word.plain (times_plain n few) in
      rw (plain, times_behind ds n word few, number_read h ds is, value_read h ds is, lt-ltb h hosts low) (asked (Host h ∷ []) n some few)

  queue_plain : (device queue : ℕ) (ds : List ℕ) → queue < QUEUES → IsNumber device ds → list_all is_line_byte (queue_text n queue ds) ≡ true
  queue_plain device queue ds low is =
      let name = (queue_word queue low).word in
      plain_join ds (32 ∷ (queue_name queue ++ times_text n)) (is_word device ds is).plain (plain_join (queue_name queue) (times_text n) name.plain (times_plain n few))

  queue_read : (event : QueueAt → Event) (device queue : ℕ) (ds : List ℕ) → device < devices → queue < QUEUES → IsNumber device ds
      → queue_events devices event (words (queue_text n queue ds)) ≡ Ok (repeated n (event (record { device = device; queue = queue }) ∷ []))
  unfolding queue_events
  queue_read event device queue ds there low is =
      let name = queue_word queue low in
      rw (
        words_next ds (queue_name queue ++ times_text n) (is_word device ds is),
        times_behind (queue_name queue) n name.word few,
        number_read device ds is,
        value_read device ds is,
        lt-ltb device devices there,
        name.named,
      ) (asked (event (record { device = device; queue = queue }) ∷ []) n some few)

  take_read : (device queue : ℕ) (ds : List ℕ) → device < devices → queue < QUEUES → IsNumber device ds
      → line_events hosts devices (codes "take " ++ queue_text n queue ds) ≡ Ok (repeated n (Take (record { device = device; queue = queue }) ∷ []))
  unfolding line_events events_of
  take_read device queue ds there low is = rw (queue_plain device queue ds low is) (queue_read (λ at. Take at) device queue ds there low is)

  perform_read : (device queue : ℕ) (ds : List ℕ) → device < devices → queue < QUEUES → IsNumber device ds
      → line_events hosts devices (codes "do " ++ queue_text n queue ds) ≡ Ok (repeated n (Perform (record { device = device; queue = queue }) ∷ []))
  unfolding line_events events_of
  perform_read device queue ds there low is = rw (queue_plain device queue ds low is) (queue_read (λ at. Perform at) device queue ds there low is)

-- a line without its line feed
abbrev pub spelled_line : Event → ℕ → List ℕ
spelled_line e n = event_words e ++ times_text n

queue_joined : (at : QueueAt) (n : ℕ) → queue_words at ++ times_text n ≡ queue_text n at.queue (decimal at.device)
unfolding queue_words
queue_joined at n = append_assoc (decimal at.device) (32 ∷ queue_name at.queue) (times_text n)

pub line_read : (hosts devices : ℕ) (e : Event) (n : ℕ) → hosts < 2 ^ 8 → devices < 2 ^ 8 → IsNamed hosts devices e → IsTimes e n
    → line_events hosts devices (spelled_line e n) ≡ Ok (repeated n (e ∷ []))
unfolding event_words
line_read hosts devices (Host h) n host_few device_few there times =
    host_read hosts devices n times.0 times.1 h (decimal h) there (is_number h (omega (arith, there, host_few)))
line_read hosts devices (Take at) n host_few device_few there times =
    rw (queue_joined at n) (take_read hosts devices n times.0 times.1 at.device at.queue (decimal at.device) there.0 there.1 (is_number at.device (omega (arith, there.0, device_few))))
line_read hosts devices (Perform at) n host_few device_few there times =
    rw (queue_joined at n) (perform_read hosts devices n times.0 times.1 at.device at.queue (decimal at.device) there.0 there.1 (is_number at.device (omega (arith, there.0, device_few))))
line_read hosts devices Close n host_few device_few there times = rw times (close_read hosts devices)
