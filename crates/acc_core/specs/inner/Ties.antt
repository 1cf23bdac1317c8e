-- How the running parts of the core stand to its histories. Only private contracts and proofs cite it.
use Rattle.std.specs.Prelude.{◌≡◌, ℕ, ◌+◌, ◌<◌, ◌≤◌, true, false, not, List, [], ◌∷◌, ◌++◌, length, All, if◌then◌else◌}
use Rattle.acc_base.specs.declared.config.TheConstants.{MAX_HOSTS}
use Rattle.acc_base.specs.declared.ids.QueueAt.{QueueAt}
use Rattle.acc_base.specs.Configurations.{Configuration}
use Rattle.acc_base.specs.Queues.{queue_count}
use Rattle.acc_batch.specs.declared.label.Label.{Label}
use Rattle.acc_batch.specs.Labels.{on_queue}
use Rattle.acc_core.specs.Legality.{IsLegalState}
use Rattle.acc_core.specs.Machine.{State, is_empty, labels_of}
use Rattle.acc_core.specs.inner.Queues.{QueueView, queue_in}
use Rattle.acc_place.specs.Closing.{is_at_hand}
use Rattle.acc_place.specs.Histories.{is_closed, IsQueue}
use Rattle.acc_place.specs.Plans.{PlaceView, standing_in}
use Rattle.acc_work.specs.declared.log.TheConstants.{MAX_HOST_ITEMS}
use Rattle.acc_work.specs.Lanes.{LaneView}
use Rattle.acc_work.specs.Logs.{all_items}
use Rattle.acc_work.specs.Works.{WorkView, lane_at, taken_counts}

-- the state of the core without its hosts
abbrev pub state_of_parts : PlaceView → WorkView → State
state_of_parts p v = record { config = p.config; history = p.history; counts = p.counts; work = v.work; taken = taken_counts v; hosts = [] }

-- A queue's lane was filled from the first labels that were placed on it, and the queue holds the others, of which there are no
-- more than its room. No job of it is out.
pub record QueueIs (config : Configuration) (labels : List Label) (at : QueueAt) (lane : LaneView) (queue : QueueView) : Type 0 where
  pub split : on_queue at labels ≡ lane.taken ++ queue.held
  pub held_low : length queue.held ≤ config.room
  pub in_place : lane.out ≡ false

-- So it is of every queue.
pub record Queued (w : State) (v : WorkView) (queues : List QueueView) : Type 0 where
  pub each : (at : QueueAt) → QueueIs w.config (labels_of w) at (lane_at v at) (queue_in queues at)
  pub count : length queues ≡ queue_count w.config
  pub devices : length v.memory.devices ≡ w.config.devices
  pub filled : All (λ (l : Label). 0 < length l.ops) (labels_of w)
  pub hosts : All (λ (l : Label). l.host < MAX_HOSTS) (labels_of w)

-- How many batches of a queue are placed and not performed to their end: the one of which something is left in its lane, if there
-- is one, and those that it holds.
abbrev pub batches_left : LaneView → QueueView → ℕ
batches_left lane queue = (if is_empty lane.left then 0 else 1) + length queue.held

-- and how many of all queues, by device, then in queue order
abbrev pub all_batches_left : List LaneView → List QueueView → ℕ
all_batches_left [] queues = 0
all_batches_left (lane ∷ lanes) [] = 0
all_batches_left (lane ∷ lanes) (queue ∷ queues) = batches_left lane queue + all_batches_left lanes queues

-- The place has the close of each queue that isn't closed.
abbrev pub HasCloses : PlaceView → Type 0
HasCloses p = (at : QueueAt) → IsQueue p.config at → is_at_hand p at ≡ not (is_closed (standing_in p) at)

-- and its queue has a place for it
abbrev pub HasPlaces : PlaceView → List QueueView → Type 0
HasPlaces p queues = (at : QueueAt) → IsQueue p.config at → is_at_hand p at ≡ true → (queue_in queues at).has_place ≡ true

-- What holds of an accelerator between two calls. The work side began with the configuration's arrays.
pub record IsAccelerator (w : State) (v : WorkView) (queues : List QueueView) : Type 0 where
  pub legal : IsLegalState w
  pub few_items : all_items w.work ≤ MAX_HOST_ITEMS
  pub parts : Queued w v queues
  pub opening : v.arrays ≡ w.config.arrays
