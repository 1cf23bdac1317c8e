-- The ends of the queues, as they are made.
use Rattle.std.proofs.Common.{◌≡◌, ℕ, ◌<◌, List, [], length}
use Rattle.std.specs.Prelude.{slice_index_or}
use Rattle.acc_base.specs.Queues.{at_seat}
use Rattle.acc_base.specs.declared.ids.QueueAt.{QueueAt}
use Rattle.acc_queue.specs.Tied.{Line}
use Rattle.acc_run.specs.WorkSides.{no_line}

pub record IsFresh (at : QueueAt) (room : ℕ) (line : Line) : Type 0 where
  pub here : line.at ≡ at
  pub room_is : line.room ≡ room
  pub none : line.labels ≡ []

-- the ends of the first n queues
pub record EndsTo (n room : ℕ) (ends : List Line) : Type 0 where
  pub count : length ends ≡ n
  pub each : (k : ℕ) → k < n → IsFresh (at_seat k) room (slice_index_or ends k no_line)
