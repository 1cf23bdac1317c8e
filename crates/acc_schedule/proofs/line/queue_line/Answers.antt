use Rattle.std.proofs.Common.{◌≡◌, ℕ, false, List, [], ◌∷◌, length, sym}
use Rattle.std.specs.Prelude.{◌==◌, Some, option_map, Result, if◌then◌else◌}
use Rattle.acc_base.specs.declared.ids.QueueAt.{QueueAt}
use Rattle.acc_host.specs.declared.event.Event.{Event}
use Rattle.acc_host.specs.declared.event.Event.TheVariants.{Take, Perform}
use Rattle.acc_token.specs.declared.read_fault.ReadKind.{ReadKind}
use Rattle.acc_schedule.specs.Schedules.{with_first, is_number, queue_named, one_turn, asked_turn, times_word, queue_events}
use Rattle.acc_schedule.proofs.line.queue_line.Goals as goal

-- what a line of two words and a number of times says
two_words : (devices : ℕ) (event : QueueAt → Event) (d q n : List ℕ) (all behind others : List (List ℕ)) (said : Result (List Event) ReadKind)
    → all ≡ with_first d behind → behind ≡ with_first q others → (length d == 0) ≡ false → (length q == 0) ≡ false → times_word others ≡ Some n
    → asked_turn (is_number d) (one_turn (option_map event (queue_named devices d q))) (Some n) ≡ said
    → queue_events devices event all ≡ said
unfolding queue_events
two_words devices event [] q n all behind others said first second d_some q_some times e = cc
two_words devices event (b ∷ bs) [] n all behind others said first second d_some q_some times e = cc
two_words devices event (b ∷ bs) (c ∷ cs) n all behind others said first second d_some q_some times e = rw (first, second, times) e

pub returns : goal.returns
returns c = λ round.
    let event : QueueAt → Event = λ q. if c.args.takes then Take q else Perform q in
    let said = rw (c.one_turn.ensures round, c.queue_event-event.ensures, c.queue_named.ensures, c.is_number.ensures) at (c.asked_turn.ensures round) in
    two_words c.args.devices event c.next_word.result.0.now c.next_word-2.result.0.now c.in-Some.times.now _ _ _ _
    c.next_word.ensures c.next_word-2.ensures (sym c.if-is_empty.ensures) (sym c.if-is_empty-2.ensures) c.in-Some.ensures said
