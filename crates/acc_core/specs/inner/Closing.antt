-- What closing makes of a state, queue by queue. Only private contracts and proofs cite it: `close_step` says it of all at once.
use Rattle.std.specs.Prelude.{ℕ, zero, suc, Bool, ◌∷◌, if◌then◌else◌}
use Rattle.acc_base.specs.declared.ids.QueueAt.{QueueAt}
use Rattle.acc_base.specs.Queues.{queue_count, at_seat}
use Rattle.acc_host.specs.declared.state.Reply.TheVariants as reply
use Rattle.acc_place.specs.declared.directive.PlaceEntry.TheVariants as noted
use Rattle.acc_place.specs.Closing.{left_open}
use Rattle.acc_core.specs.Machine.{State, Outcome, can_close, standing_of, with_closing}

abbrev pub closing_begun : State → State
closing_begun w = record w { history = with_closing (standing_of w) w.history }

abbrev pub can_close_now : State → QueueAt → Bool
can_close_now w at = can_close w (standing_of w) at

abbrev pub closes_one : State → QueueAt → State
closes_one w at = record w { history = if can_close_now w at then noted.Closed at ∷ w.history else w.history }

-- the first n queues in turn
abbrev pub closes_all : State → ℕ → State
closes_all w zero = w
closes_all w (suc n) = closes_one (closes_all w n) (at_seat n)

abbrev pub closed_state : State → State
closed_state w = closes_all (closing_begun w) (queue_count w.config)

abbrev pub close_in_turn : State → Outcome
close_in_turn w =
    record { reply = reply.Remaining (left_open (standing_of (closed_state w)) (queue_count w.config)); state = closed_state w }
