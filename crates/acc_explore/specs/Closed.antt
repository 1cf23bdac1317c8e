-- Where each queue is closed, no directive is accepted and the owner's closes do nothing. So an event may go first there, whether he may
-- close or not, where it may if he may not.
use Rattle.std.specs.Prelude.{Bool, true, false, ◌&&◌, IsTrue}
use Rattle.std.specs.List.{list_all}
use Rattle.acc_base.specs.Queues.{at_seat, numbers_from, queue_count}
use Rattle.acc_core.specs.Machine.{State, standing_of}
use Rattle.acc_explore.specs.Reductions.{MayGoFirst}
use Rattle.acc_host.specs.declared.event.Event.{Event}
use Rattle.acc_place.specs.Histories.{is_closed}

-- closing has begun, and each queue that is there is closed
abbrev pub is_all_closed : State → Bool
is_all_closed w = (standing_of w).closing && list_all (λ n. is_closed (standing_of w) (at_seat n)) (numbers_from 0 (queue_count w.config))

abbrev pub ClosedIsUnclosing : Type 0
ClosedIsUnclosing = (w : State) (e : Event) → IsTrue (is_all_closed w) → MayGoFirst false w e → MayGoFirst true w e
