-- What the work lock holds: a work side, and the end of each queue that takes.
use Rattle.std.specs.Prelude.{◌≡◌, ℕ, ℤ, ◌^◌, ◌<◌, ◌≤◌, All, Bool, true, false, ◌&&◌, ◌==◌, Option, Some, None, List, [], ◌∷◌, ◌++◌, length, slice_index_or, slice_set, nat_lt, if◌then◌else◌}
use Rattle.std.specs.Option.{option_map}
use Rattle.atomic_table.specs.Seated.{TableId}
use Rattle.acc_base.specs.declared.ids.QueueAt.{QueueAt}
use Rattle.acc_base.specs.declared.ids.TheConstants.{QUEUES}
use Rattle.acc_base.specs.Configurations.{Configuration}
use Rattle.acc_base.specs.declared.config.TheConstants.{MAX_CELLS}
use Rattle.acc_base.specs.Queues.{queue_count, seat}
use Rattle.acc_place.specs.Histories.{IsQueue}
use Rattle.acc_place.specs.Sound.{is_close}
use Rattle.acc_work.specs.declared.item.ItemLabel.{ItemLabel}
use Rattle.acc_work.specs.declared.item.Shown.{Shown}
use Rattle.acc_batch.specs.declared.entry.Told.{Told}
use Rattle.acc_work.specs.Items.{shown_by}
use Rattle.acc_batch.specs.declared.label.Label.{Label}
use Rattle.acc_batch.specs.declared.label.OpLabel.{OpLabel}
use Rattle.acc_queue.specs.Seen.{Raised, raised_at}
use Rattle.acc_queue.specs.Tied.{Line, IsFor}
use Rattle.acc_work.specs.Jobs.{JobView, Commits, HasStarted, IsOut}
use Rattle.acc_work.specs.Lanes.{LaneView, last_of, lane_with_batch, lanes_with}
use Rattle.acc_work.specs.Logs.{batches_done}
use Rattle.acc_work.specs.declared.work.Done.{Done}
use Rattle.acc_work.specs.declared.work.Done.TheVariants as done
use Rattle.acc_work.specs.Works.{WorkView, HasPerformed, HasTold, Tells, can_go, lane_at, taken_labels}

-- The configuration, the work side, of each queue what its end has taken, by device, then in queue order, and the numbers that are
-- published of the queues.
pub record WorkSideView : Type 0 where
  pub config : Configuration
  pub work : WorkView
  pub lines : List Line
  pub progress : Raised

abbrev pub no_id : TableId
no_id = record { words = 0; slots = 0; views_name = 0; atom = 0; block = 0; offset = 0; slot_names = [] }

abbrev pub no_line : Line
no_line = record { queue = no_id; at = record { device = 0; queue = 0 }; room = 0; labels = [] }

-- the end of a queue among those of all, which stand by device, then in queue order
abbrev pub line_in : List Line → QueueAt → Line
line_in lines at = if nat_lt at.queue QUEUES then slice_index_or lines (seat at) no_line else no_line

-- An end stands at its queue's seat, and has taken what the queue's lane was offered.
pub record IsLine (w : WorkView) (at : QueueAt) (line : Line) : Type 0 where
  pub here : at.device < length w.memory.devices → at.queue < QUEUES → line.at ≡ at
  pub took : line.labels ≡ (lane_at w at).taken

-- What holds of a work side and its ends whenever the lock is free: each lane was offered what the end of its queue has taken; no
-- array was longer than the limit, or had no cell, at first; and it has the arrays and the devices of its configuration.
pub record IsWorkSide (config : Configuration) (w : WorkView) (ends : List Line) : Type 0 where
  pub each : (at : QueueAt) → IsLine w at (line_in ends at)
  pub count : length ends ≡ length w.lanes
  pub limits : All (λ (cells : List ℤ). (1 ≤ length cells) × (length cells ≤ MAX_CELLS)) w.arrays
  pub arrays : w.arrays ≡ config.arrays
  pub devices : length w.memory.devices ≡ config.devices

-- the number of a queue; a queue that isn't there has none
abbrev pub queue_number : List ℕ → QueueAt → ℕ
queue_number numbers at = if nat_lt at.queue QUEUES then slice_index_or numbers (seat at) 0 else 0

-- What is published whenever the lock is free: of each queue how many batches it has performed, its close among them. It took fewer
-- than 2^62.
pub record IsPublished (w : WorkView) (numbers : List ℕ) : Type 0 where
  pub each : (at : QueueAt) → queue_number numbers at ≡ batches_done (taken_labels w) w.work at
  pub few : (at : QueueAt) → length (lane_at w at).taken < 2 ^ 62
  pub count : length numbers ≡ length w.lanes

-- the numbers, where an operation of a queue was performed that left these of its batch
abbrev pub raised_by : List OpLabel → Raised → QueueAt → Raised
raised_by [] p at = raised_at p at
raised_by (op ∷ ops) p at = p

-- and where none was performed they stay
abbrev pub published_by : Done → List OpLabel → Raised → QueueAt → Raised
published_by done.Op left p at = raised_by left p at
published_by done.Idle left p at = p

-- The ends of all queues of a configuration, before anything was sent or taken.
pub record AreEnds (config : Configuration) (ends : List Line) : Type 0 where
  pub count : length ends ≡ queue_count config
  pub each : (at : QueueAt) → IsQueue config at → ((line_in ends at).at ≡ at) × ((line_in ends at).room ≡ config.room) × ((line_in ends at).labels ≡ [])

-- the ends, where that of a queue has taken a batch
abbrev pub lines_taken : List Line → QueueAt → Label → List Line
lines_taken ends at label = slice_set ends (seat at) (record (line_in ends at) { labels = (line_in ends at).labels ++ label ∷ [] })

-- A queue took a batch with this number, whose label its end took behind the others: nothing was left in the queue's lane, and now the
-- whole batch is.
pub record HasTaken (old new : WorkSideView) (at : QueueAt) (number : ℕ) : Type 0 where
  pub config : new.config ≡ old.config
  pub label : Label
  pub numbered : label.number ≡ number
  pub for_it : IsFor at label
  pub empty : (lane_at old.work at).left ≡ []
  pub work : new.work ≡ record old.work { lanes = lanes_with old.work.lanes at (lane_with_batch (lane_at old.work at) label) }
  pub lines : new.lines ≡ lines_taken old.lines at label
  pub progress : new.progress ≡ old.progress

-- A queue performed an operation: the lane's next operation, which could be performed, joined the log; and where it was the last of
-- its batch, the queue's number was raised.
pub record HasGone (old new : WorkSideView) (at : QueueAt) : Type 0 where
  pub config : new.config ≡ old.config
  pub op : OpLabel
  pub ops : List OpLabel
  pub left : (lane_at old.work at).left ≡ op ∷ ops
  pub can : can_go old.work at (op ∷ ops) ≡ true
  pub performed : HasPerformed old.work new.work at op ops
  pub lines : new.lines ≡ old.lines
  pub progress : new.progress ≡ raised_by ops old.progress at

-- A queue performed none: its next operation can't be performed, and nothing changed.
pub record HasStayed (old new : WorkSideView) (at : QueueAt) : Type 0 where
  pub same : new ≡ old
  pub why : can_go old.work at (lane_at old.work at).left ≡ false

abbrev pub Goes : WorkSideView → QueueAt → Done → WorkSideView → Type 0
Goes old at done.Op new = HasGone old new at
Goes old at done.Idle new = HasStayed old new at

-- A queue's next operation, a loop, was taken out to be computed, and nothing else changed.
pub record HasGoneOut (old new : WorkSideView) (at : QueueAt) (job : JobView) : Type 0 where
  pub config : new.config ≡ old.config
  pub started : HasStarted old.work new.work at job
  pub lines : new.lines ≡ old.lines
  pub progress : new.progress ≡ old.progress

-- It has come back, and is performed, or its lane has it back. Where nothing is left of the batch, the queue's number was raised.
pub record HasComeBack (old new : WorkSideView) (job : JobView) : Type 0 where
  pub config : new.config ≡ old.config
  pub out : IsOut old.work job
  pub commits : Commits old.work new.work job.at
  pub lines : new.lines ≡ old.lines
  pub progress : new.progress ≡ raised_by (lane_at new.work job.at).left old.progress job.at

-- A job that isn't the one that is out changes nothing.
pub record IsStray (old new : WorkSideView) (job : JobView) : Type 0 where
  pub same : new ≡ old
  pub stray : IsOut old.work job → ⊥

-- A host's item was recorded: it joined the log with what it tells, which is its answer.
pub record HasLogged (old new : WorkSideView) (host : ℕ) (item : ItemLabel) (answer : Shown) : Type 0 where
  pub config : new.config ≡ old.config
  pub what : Told
  pub tells : Tells old.work item what
  pub answered : answer ≡ shown_by what
  pub told : HasTold old.work new.work host what
  pub lines : new.lines ≡ old.lines
  pub progress : new.progress ≡ old.progress

-- the number of the batch of which something is left in a lane
abbrev pub number_left : LaneView → Option ℕ
number_left lane = if length lane.left == 0 then None else option_map (λ (l : Label). l.number) (last_of lane.taken)

-- the operations of a close
abbrev pub are_a_close : List OpLabel → Bool
are_a_close [] = false
are_a_close (op ∷ []) = is_close op
are_a_close (op ∷ next ∷ ops) = false

abbrev pub closes_last : Option Label → Bool
closes_last None = false
closes_last (Some l) = are_a_close l.ops

-- A queue has performed its close: it was the last batch, and nothing is left of it.
abbrev pub is_ended : LaneView → Bool
is_ended lane = (length lane.left == 0) && closes_last (last_of lane.taken)
