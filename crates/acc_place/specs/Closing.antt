-- What closing makes of a place: it begins once; the close of each queue is handed out, comes back, or is placed.
use Rattle.std.specs.Prelude.{◌≡◌, ℕ, zero, suc, ◌+◌, Bool, true, false, ◌&&◌, nat_lt, [], ◌∷◌, slice_index_or, slice_set, Option, Some, None, if◌then◌else◌}
use Rattle.acc_base.specs.declared.ids.QueueAt.{QueueAt}
use Rattle.acc_base.specs.declared.ids.TheConstants.{QUEUES}
use Rattle.acc_base.specs.Queues.{at_seat, seat}
use Rattle.acc_batch.specs.Awaits.{close_label}
use Rattle.acc_batch.specs.declared.label.Label.{Label}
use Rattle.acc_place.specs.declared.directive.PlaceEntry.TheVariants as entry
use Rattle.acc_place.specs.Histories.{is_closed, IsQueue}
use Rattle.acc_place.specs.Plans.{standing_in, IsPlanOf, PlaceView, PlanView}
use Rattle.acc_place.specs.Standings.{Standing}

-- The close of a queue is at hand: it is neither out nor placed.
abbrev pub is_at_hand : PlaceView → QueueAt → Bool
is_at_hand p at = nat_lt at.queue QUEUES && slice_index_or p.closes (seat at) false

-- It is out: neither at hand nor placed.
pub record IsCloseOut (p : PlaceView) (at : QueueAt) : Type 0 where
  pub there : IsQueue p.config at
  pub given : is_at_hand p at ≡ false
  pub unplaced : is_closed (standing_in p) at ≡ false

-- a label is that of a queue's close, whatever its number
abbrev pub ClosesQueue : QueueAt → Label → Type 0
ClosesQueue at l = l ≡ record (close_label at []) { number = l.number }

-- what is handed out is the queue's last batch
abbrev pub close_of : PlaceView → QueueAt → Option Label
close_of p at = if is_at_hand p at then Some (close_label at (standing_in p).labels) else None

abbrev pub handed_out : PlaceView → QueueAt → PlaceView
handed_out p at = record p { closes = if is_at_hand p at then slice_set p.closes (seat at) false else p.closes }

abbrev pub handed_back : PlaceView → QueueAt → PlaceView
handed_back p at = record p { closes = slice_set p.closes (seat at) true }

abbrev pub place_after_begin : PlaceView → PlaceView
place_after_begin p = record p { history = if (standing_in p).closing then p.history else entry.Closing ∷ p.history }

abbrev pub place_after_close : PlaceView → QueueAt → PlaceView
place_after_close p at = record p { history = entry.Closed at ∷ p.history }

-- how many of the first n queues aren't closed
abbrev pub left_open : Standing → ℕ → ℕ
left_open st zero = 0
left_open st (suc n) = if is_closed st (at_seat n) then left_open st n else left_open st n + 1

-- A plan stays one of its place where closing begins, and where the close of a queue is handed out, comes back, or is placed.
abbrev pub KeptByClosing : Type 0
KeptByClosing =
    (p : PlaceView) (q : PlanView) (at : QueueAt) → IsPlanOf p q
    → IsPlanOf (place_after_begin p) q × IsPlanOf (handed_out p at) q × IsPlanOf (handed_back p at) q × IsPlanOf (place_after_close p at) q
