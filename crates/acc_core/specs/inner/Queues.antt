-- The batches that the queues hold. Only private contracts and proofs cite it.
use Rattle.std.specs.Prelude.{Bool, true, false, ℕ, nat_lt, List, [], ◌∷◌, ◌++◌, slice_index_or, slice_set, if◌then◌else◌}
use Rattle.acc_base.specs.declared.ids.QueueAt.{QueueAt}
use Rattle.acc_base.specs.declared.ids.TheConstants.{QUEUES}
use Rattle.acc_base.specs.Queues.{seat}
use Rattle.acc_batch.specs.declared.label.Label.{Label}

-- Of a queue: the labels of the batches that were placed and not taken, and whether it has a place for one more.
pub record QueueView : Type 0 where
  pub held : List Label
  pub has_place : Bool

abbrev pub no_queue : QueueView
no_queue = record { held = []; has_place = false }

abbrev pub empty_queue : QueueView
empty_queue = record { held = []; has_place = true }

-- The queue with this name among all, which stand by device, then in queue order; one that isn't there holds nothing.
abbrev pub queue_in : List QueueView → QueueAt → QueueView
queue_in queues at = if nat_lt at.queue QUEUES then slice_index_or queues (seat at) no_queue else no_queue

abbrev pub queues_with : List QueueView → QueueAt → QueueView → List QueueView
queues_with queues at queue = slice_set queues (seat at) queue

-- one more batch
abbrev pub held_with : QueueView → Label → List Label
held_with queue label = queue.held ++ label ∷ []
