-- What a place hands out of the close of a queue.
use Rattle.std.proofs.Common.{◌≡◌, Bool, true, false, cond, Some, None, refl}
use Rattle.acc_base.specs.declared.ids.QueueAt.{QueueAt}
use Rattle.acc_batch.specs.declared.label.Label.{Label}
use Rattle.acc_batch.specs.Awaits.{close_label}
use Rattle.acc_place.specs.Closing.{close_of, is_at_hand}
use Rattle.acc_place.specs.Plans.{PlaceView, standing_in}

-- it was at hand, and is the queue's last batch
pub close_some : (p : PlaceView) (at : QueueAt) (b : Label) → Some b ≡ close_of p at → (is_at_hand p at ≡ true) × (b ≡ close_label at (standing_in p).labels)
close_some p at b e = by_hand (is_at_hand p at) e
  where
    by_hand : (hand : Bool) → Some b ≡ cond hand (Some (close_label at (standing_in p).labels)) None → (hand ≡ true) × (b ≡ close_label at (standing_in p).labels)
    by_hand true e = (refl, cc)
    by_hand false e = absurd cc
