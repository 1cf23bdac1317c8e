-- What a work side shows: the memory, the log, and the lanes of the queues.
use Rattle.std.specs.Prelude.{◌≡◌, ℕ, ◌+◌, ◌*◌, ◌<◌, ◌≤◌, nat_le, All, Bool, true, false, ◌&&◌, not, IsTrue, MatchBool, List, [], ◌∷◌, ◌++◌, length, map, Option, Some, None, ℤ, if◌then◌else◌}
use Rattle.acc_base.specs.declared.config.TheConstants.{MAX_CELLS}
use Rattle.acc_base.specs.declared.fault.Fault.{Fault}
use Rattle.acc_base.specs.declared.fault.Fault.TheVariants.{BadRange, TooMany, Memory}
use Rattle.acc_base.specs.declared.ids.QueueAt.{QueueAt}
use Rattle.acc_base.specs.declared.ids.TheConstants.{QUEUES}
use Rattle.acc_batch.specs.declared.label.Label.{Label}
use Rattle.acc_batch.specs.declared.label.OpLabel.{OpLabel}
use Rattle.acc_batch.specs.Labels.{on_queue, ops_of, AllAt}
use Rattle.acc_work.specs.Items.{shown_by}
use Rattle.acc_work.specs.declared.item.ItemLabel.{ItemLabel}
use Rattle.acc_work.specs.declared.item.Shown.{Shown}
use Rattle.acc_work.specs.declared.item.ItemLabel.TheVariants as to_record
use Rattle.acc_work.specs.declared.log.TheConstants.{MAX_HOST_ITEMS}
use Rattle.acc_batch.specs.declared.entry.Told.{Told}
use Rattle.acc_batch.specs.declared.entry.Told.TheVariants as told
use Rattle.acc_batch.specs.declared.entry.WorkEntry.{WorkEntry}
use Rattle.acc_batch.specs.declared.entry.WorkEntry.TheVariants as entry
use Rattle.acc_work.specs.declared.work.Done.{Done}
use Rattle.acc_work.specs.declared.work.Done.TheVariants as done
use Rattle.acc_work.specs.Kept.{IsKept}
use Rattle.acc_work.specs.Lanes.{LaneView, IsLane, all_left, lane_in, lanes_with, all_taken, lane_with_left, last_of}
use Rattle.acc_work.specs.Lives.{was_made}
use Rattle.acc_work.specs.Remembering.{Remembers}
use Rattle.acc_work.specs.Logs.{performed, device_ops, all_items, all_done, await_allows, host_allows, after_item}
use Rattle.acc_memory.specs.Memories.{MemoryView, PerformsOn, Shows, has_array, held_blocks, finds_blocks}
use Rattle.acc_base.specs.Configurations.{has_range, lengths_of}
use Rattle.acc_batch.specs.declared.label.OpLabel.TheVariants.{Make}
use Rattle.acc_memory.specs.Values.{Cell, values_of}

-- The host arrays with their opening values; the memory; the log, the latest entry first; and the lanes, by device, then in queue
-- order.
pub record WorkView : Type 0 where
  pub arrays : List (List ℤ)
  pub memory : MemoryView
  pub work : List WorkEntry
  pub lanes : List LaneView

abbrev pub lane_at : WorkView → QueueAt → LaneView
lane_at w at = lane_in w.lanes at

-- the labels of the batches that were taken, queue by queue
abbrev pub taken_labels : WorkView → List Label
taken_labels w = all_taken w.lanes

-- how many batches each queue took, by device, then in queue order
abbrev pub taken_counts : WorkView → List ℕ
taken_counts w = map (λ lane. length lane.taken) w.lanes

-- a queue of a device that is there
abbrev pub HasQueue : WorkView → QueueAt → Type 0
HasQueue w at = (at.device < length w.memory.devices) × (at.queue < QUEUES)

-- An operation of a queue is due where what it awaits is performed, and the host of the queue's last batch has the items that
-- stand before the batch.
abbrev pub is_due : WorkView → QueueAt → OpLabel → Bool
is_due w at op = await_allows (taken_labels w) w.work at.device op && host_allows (last_of (lane_at w at).taken) w.work

-- A queue's next operation goes on where there is one, it isn't out, and it is due.
abbrev pub goes_on : WorkView → QueueAt → List OpLabel → Bool
goes_on w at [] = false
goes_on w at (op ∷ ops) = not (lane_at w at).out && is_due w at op

-- a block that is made was never made before, and its range lies in its array
abbrev pub is_new : WorkView → ℕ → OpLabel → Bool
is_new w device (Make r b) = not (was_made (device_ops device w.work) b) && has_range w.memory.arrays r
is_new w device op = true

-- A queue's next operation uses live blocks.
abbrev pub is_live : WorkView → QueueAt → List OpLabel → Bool
is_live w at [] = false
is_live w at (op ∷ ops) = finds_blocks (held_blocks w.memory at.device) op && is_new w at.device op

-- A queue's next operation can be performed now: it goes on, and uses live blocks.
abbrev pub can_go : WorkView → QueueAt → List OpLabel → Bool
can_go w at ops = goes_on w at ops && is_live w at ops

-- An operation of a queue was performed on its device, joined the log, and left the queue's lane, in which these are left. Every
-- other lane is as it was.
pub record HasPerformed (old new : WorkView) (at : QueueAt) (op : OpLabel) (ops : List OpLabel) : Type 0 where
  pub opening : new.arrays ≡ old.arrays
  pub memory : PerformsOn at.device op old.memory new.memory
  pub work : new.work ≡ entry.Op at op ∷ old.work
  pub lanes : new.lanes ≡ lanes_with old.lanes at (lane_with_left (lane_at old at) ops)

-- what performing does where these are left in the queue's lane
abbrev pub PerformsNext : WorkView → QueueAt → List OpLabel → Done → WorkView → Type 0
PerformsNext old at [] answer new = (answer ≡ done.Idle) × (new ≡ old)
PerformsNext old at (op ∷ ops) answer new =
    MatchBool (can_go old at (op ∷ ops)) ((answer ≡ done.Op) × HasPerformed old new at op ops) ((answer ≡ done.Idle) × (new ≡ old))

-- What a call to perform does: the next operation of the queue's lane, if it can be performed.
abbrev pub Performs : WorkView → QueueAt → Done → WorkView → Type 0
Performs old at answer new = PerformsNext old at (lane_at old at).left answer new

-- An item of a host joined the log: the memory shows what it wrote, if it did.
pub record HasTold (old new : WorkView) (host : ℕ) (what : Told) : Type 0 where
  pub opening : new.arrays ≡ old.arrays
  pub shows : (was : Cell → ℤ) → Shows old.memory was → Shows new.memory (after_item what was)
  pub devices : new.memory.devices ≡ old.memory.devices
  pub lengths : lengths_of new.memory.arrays ≡ lengths_of old.memory.arrays
  pub work : new.work ≡ entry.Item host what ∷ old.work
  pub lanes : new.lanes ≡ old.lanes

-- An item can be recorded: its cells are there, and where it is noted that batches are performed, they are.
abbrev pub CanTell : WorkView → ItemLabel → Type 0
CanTell w (to_record.Write array cell value) = has_array w.memory (record { array = array; lo = cell; len = 1 }) ≡ true
CanTell w (to_record.Print range) = (has_array w.memory range ≡ true) × (range.len ≤ MAX_CELLS)
CanTell w (to_record.Seen device counts) = IsTrue (all_done (taken_labels w) w.work device 0 counts)
CanTell w (to_record.Test device counts) = Unit {0}

-- What an item notes as performed is.
abbrev pub IsReached : WorkView → ItemLabel → Type 0
IsReached w (to_record.Write array cell value) = Unit {0}
IsReached w (to_record.Print range) = Unit {0}
IsReached w (to_record.Seen device counts) = IsTrue (all_done (taken_labels w) w.work device 0 counts)
IsReached w (to_record.Test device counts) = Unit {0}

-- What an item tells: a print the values that the memory shows, a test whether each queue has performed its count.
abbrev pub Tells : WorkView → ItemLabel → Told → Type 0
Tells w (to_record.Write array cell value) what = what ≡ told.Write array cell value
Tells w (to_record.Print range) what =
    (values : List ℤ) × (what ≡ told.Print range values) × ((was : Cell → ℤ) → Shows w.memory was → values ≡ values_of was range)
Tells w (to_record.Seen device counts) what = what ≡ told.Seen device counts
Tells w (to_record.Test device counts) what = what ≡ told.Test device (all_done (taken_labels w) w.work device 0 counts) counts

-- An item of a host was recorded, and this is what the host got back.
abbrev pub HasRecorded : WorkView → WorkView → ℕ → ItemLabel → Shown → Type 0
HasRecorded old new host item got = (what : Told) × Tells old item what × (got ≡ shown_by what) × HasTold old new host what

-- What a queue has performed, and what is left in its lane, are the operations of the batches that it took, in order and once.
pub record IsInOrder (work : List WorkEntry) (at : QueueAt) (lane : LaneView) : Type 0 where
  pub in_order : performed at work ++ lane.left ≡ ops_of lane.taken
  pub on_queue : AllAt at lane.taken
  pub batches : IsLane lane

-- So it is of every queue, and its batches are those among all that were taken.
pub record KeepsOrder (w : WorkView) : Type 0 where
  pub order : (at : QueueAt) → IsInOrder w.work at (lane_at w at)
  pub taken : (at : QueueAt) → on_queue at (taken_labels w) ≡ (lane_at w at).taken
  pub count : length w.lanes ≡ length w.memory.devices * QUEUES

-- Where a loop is out, the host of its batch has the items that stand before the batch.
abbrev pub OutIsDue : List WorkEntry → LaneView → Type 0
OutIsDue work lane = IsTrue lane.out → IsTrue (host_allows (last_of lane.taken) work)

-- What every work side keeps: each array has a cell, and no more than an array may have; a lane for each queue of each device, and
-- the order; a loop that is out is due; its log keeps what every log does against the batches that were taken; the memory shows it;
-- and there is room on the log's pages for all operations that are left, beside what is unclaimed.
pub record IsWork (w : WorkView) (free unclaimed : ℕ) : Type 0 where
  pub limits : All (λ cells. (1 ≤ length cells) × (length cells ≤ MAX_CELLS)) w.arrays
  pub order : (at : QueueAt) → IsInOrder w.work at (lane_at w at)
  pub out_due : (at : QueueAt) → OutIsDue w.work (lane_at w at)
  pub count : length w.lanes ≡ length w.memory.devices * QUEUES
  pub kept : IsKept w.arrays (taken_labels w) w.work
  pub memory : Remembers w.arrays w.work w.memory
  pub room : all_left w.lanes + unclaimed ≤ free

-- the fault of an item
abbrev pub item_fault : Bool → List WorkEntry → Bool → Option Fault
item_fault no_memory work in_array =
    if no_memory then Some Memory
    else (if nat_le MAX_HOST_ITEMS (all_items work) then Some TooMany
    else (if not in_array then Some BadRange else None))
