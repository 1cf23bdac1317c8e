-- A schedule with as many events as there can be, and what follows it.
use Rattle.std.proofs.Common.{◌≡◌, ℕ, ◌+◌, ◌*◌, false, List, [], ◌∷◌, length, Ok, Err, refl, ap, ◌∙◌, lit<, lit≤, arith}
use Rattle.std.specs.Prelude.{nat_lt, codes}
use Rattle.acc_base.specs.declared.ids.TheConstants.{QUEUES}
use Rattle.acc_host.specs.declared.event.Event.{Event}
use Rattle.acc_host.specs.declared.event.Event.TheVariants.{Close}
use Rattle.acc_token.specs.declared.read_fault.ReadKind.{ReadKind}
use Rattle.acc_token.specs.declared.read_fault.ReadKind.TheVariants.{Name, Limit}
use Rattle.acc_token.specs.Faults.{fails, ◌>>=◌}
use Rattle.acc_schedule.specs.Schedules.{turn_of, repeated, repeats, times_of, host_events, close_events, round_events, events_of, line_events, events_behind, events_from, schedule_of}
use Rattle.test_grammar.specs.worked.Schedules.{FullSchedule}
use Rattle.acc_schedule.proofs.LineEvents.{few_behind, too_many_behind, faulty_behind}
use Rattle.acc_schedule.proofs.RepeatedTurns.{round_length, repeated_length}

step : (hosts devices number : ℕ) (events more : List Event) (line : List ℕ) (others : List (List ℕ))
    → events_behind hosts devices number events line ≡ Ok more
    → events_from hosts devices number events (line ∷ others) ≡ events_from hosts devices (number + 1) more others
step hosts devices number events more line others e = rw e refl

stop : (hosts devices number : ℕ) (events : List Event) (line : List ℕ) (others : List (List ℕ)) (kind : ReadKind)
    → events_behind hosts devices number events line ≡ fails number kind
    → events_from hosts devices number events (line ∷ others) ≡ fails number kind
stop hosts devices number events line others kind e = rw e refl

skipped : (hosts devices number : ℕ) (events : List Event) → events_behind hosts devices number events [] ≡ Ok events
unfolding events_behind
skipped hosts devices number events = refl

often : times_of (codes "10000") ≡ Ok 10000
unfolding times_of
often = refl

round_line : (hosts devices : ℕ) → line_events hosts devices (codes "round 10000") ≡ repeats (turn_of hosts devices) (times_of (codes "10000"))
unfolding round_events events_of line_events
round_line hosts devices = refl

close_line : (hosts devices : ℕ) → line_events hosts devices (codes "close") ≡ Ok (Close ∷ [])
unfolding close_events events_of line_events
close_line hosts devices = refl

absent_line : (hosts devices : ℕ) → nat_lt 100 hosts ≡ false → line_events hosts devices (codes "host 100") ≡ Err Name
unfolding host_events events_of line_events
absent_line hosts devices e = rw e refl

module _ (hosts devices n : ℕ) (times : times_of (codes "10000") ≡ Ok n) (full : n * (hosts + 2 * QUEUES * devices) ≡ 1000000) where
  size : length (repeated n (turn_of hosts devices)) ≡ 1000000
  size = repeated_length (turn_of hosts devices) n ∙ ap (λ k. n * k) (round_length hosts devices) ∙ full

  first : events_behind hosts devices 1 [] (codes "round 10000") ≡ Ok (repeated n (turn_of hosts devices))
  first =
      let count : 1000000 ≡ 0 + length (repeated n (turn_of hosts devices)) = omega (arith, size) in
      few_behind hosts devices 1 [] (repeated n (turn_of hosts devices)) (codes "round 10000") 1000000
      refl (round_line hosts devices ∙ ap (repeats (turn_of hosts devices)) times) count (lit≤ tt)

  third : events_behind hosts devices 3 (repeated n (turn_of hosts devices)) (codes "close") ≡ fails 3 Limit
  third =
      let count : 1000001 ≡ length (repeated n (turn_of hosts devices)) + 1 = omega (arith, size) in
      too_many_behind hosts devices 3 (repeated n (turn_of hosts devices)) (Close ∷ []) (codes "close") 1000001
      refl (close_line hosts devices) count (lit< tt)

  full_one : schedule_of hosts devices (codes "round 10000") ≡ Ok (repeated n (turn_of hosts devices))
  unfolding schedule_of
  full_one = step hosts devices 1 [] (repeated n (turn_of hosts devices)) (codes "round 10000") [] first

  full_length : (schedule_of hosts devices (codes "round 10000") >>= λ events. Ok (length events)) ≡ Ok 1000000
  full_length = rw (full_one, size) refl

  close_behind : schedule_of hosts devices (codes "round 10000\n\nclose\nround x") ≡ fails 3 Limit
  unfolding schedule_of
  close_behind =
      step hosts devices 1 [] (repeated n (turn_of hosts devices)) (codes "round 10000") ([] ∷ codes "close" ∷ codes "round x" ∷ []) first
      ∙ step hosts devices 2 (repeated n (turn_of hosts devices)) (repeated n (turn_of hosts devices)) [] (codes "close" ∷ codes "round x" ∷ []) (skipped hosts devices 2 (repeated n (turn_of hosts devices)))
      ∙ stop hosts devices 3 (repeated n (turn_of hosts devices)) (codes "close") (codes "round x" ∷ []) Limit third

  absent_behind : nat_lt 100 hosts ≡ false → schedule_of hosts devices (codes "round 10000\nhost 100") ≡ fails 2 Name
  unfolding schedule_of
  absent_behind none =
      step hosts devices 1 [] (repeated n (turn_of hosts devices)) (codes "round 10000") (codes "host 100" ∷ []) first
      ∙ stop hosts devices 2 (repeated n (turn_of hosts devices)) (codes "host 100") [] Name
      (faulty_behind hosts devices 2 (repeated n (turn_of hosts devices)) (codes "host 100") Name refl (absent_line hosts devices none))

pub full_schedule : FullSchedule
full_schedule = record {
  full = full_length 100 0 10000 often refl;
  one_more = close_behind 100 0 10000 often refl;
  name_before_limit = absent_behind 100 0 10000 often refl refl;
}
