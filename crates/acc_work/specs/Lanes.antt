-- The batches that queues took, and what is left of the last one of each (OpenACC API 3.0, 2.16, Asynchronous Behavior).
use Rattle.std.specs.Prelude.{◌≡◌, ℕ, ◌-◌, ◌<◌, ◌≤◌, nat_lt, Bool, false, List, [], ◌∷◌, ◌++◌, length, All, slice_get, slice_index_or, slice_set, Option, Some, None, if◌then◌else◌}
use Rattle.std.specs.List.{flat_map, sum_by}
use Rattle.acc_base.specs.declared.config.TheConstants.{MAX_HOSTS}
use Rattle.acc_base.specs.declared.ids.QueueAt.{QueueAt}
use Rattle.acc_base.specs.declared.ids.TheConstants.{QUEUES}
use Rattle.acc_base.specs.Queues.{seat}
use Rattle.acc_batch.specs.declared.label.OpLabel.{OpLabel}
use Rattle.acc_batch.specs.declared.label.OpLabel.TheVariants.{Await}
use Rattle.acc_batch.specs.Ops.{loop_of}
use Rattle.acc_batch.specs.declared.label.Label.{Label}
use Rattle.acc_kernel.specs.Jobs.{Use}
use Rattle.acc_kernel.specs.Kernels.{Loop}

-- Of a queue: the labels of the batches that it took, in order; the operations of the last batch that aren't performed; and
-- whether the next of these, a loop, is out, to be computed while the lane is left alone.
pub record LaneView : Type 0 where
  pub taken : List Label
  pub left : List OpLabel
  pub out : Bool

abbrev pub no_lane : LaneView
no_lane = record { taken = []; left = []; out = false }

-- The lane of a queue among those of all, which stand by device, then in queue order. A queue that isn't there takes no batch.
abbrev pub lane_in : List LaneView → QueueAt → LaneView
lane_in lanes at = if nat_lt at.queue QUEUES then slice_index_or lanes (seat at) no_lane else no_lane

-- with another lane for a queue that is there
abbrev pub lanes_with : List LaneView → QueueAt → LaneView → List LaneView
lanes_with lanes at lane = slice_set lanes (seat at) lane

-- the batches that were taken, queue by queue
abbrev pub all_taken : List LaneView → List Label
all_taken lanes = flat_map (λ lane. lane.taken) lanes

abbrev pub lane_with_batch : LaneView → Label → LaneView
lane_with_batch lane label = record lane { taken = lane.taken ++ label ∷ []; left = label.ops; out = false }

-- with these operations left, of which none is out
abbrev pub lane_with_left : LaneView → List OpLabel → LaneView
lane_with_left lane ops = record lane { left = ops; out = false }

-- with its next operation out, or back
abbrev pub lane_with_out : LaneView → Bool → LaneView
lane_with_out lane out = record lane { out = out }

-- what comes next awaits, if it is an await
abbrev pub awaited_next : List OpLabel → Option (ℕ × ℕ)
awaited_next (Await queue number ∷ ops) = Some (queue, number)
awaited_next ops = None

-- the loop that comes next
abbrev pub next_loop : List OpLabel → Option (Loop × List Use)
next_loop [] = None
next_loop (op ∷ ops) = loop_of op

abbrev pub IsLoopNext : Loop → List Use → List OpLabel → Type 0
IsLoopNext k uses left = next_loop left ≡ Some (k, uses)

abbrev pub last_of : List Label → Option Label
last_of labels = slice_get labels (length labels - 1)

-- how many batches are performed: all that were taken, or all but the last
abbrev pub lane_done : LaneView → ℕ
lane_done lane = if nat_lt 0 (length lane.left) then length lane.taken - 1 else length lane.taken

abbrev pub ops_of_last : Option Label → ℕ
ops_of_last None = 0
ops_of_last (Some l) = length l.ops

-- Each batch has an operation and a host, and what is left is no more than the last batch has.
pub record IsLane (lane : LaneView) : Type 0 where
  pub filled : All (λ (l : Label). 0 < length l.ops) lane.taken
  pub hosts : All (λ (l : Label). l.host < MAX_HOSTS) lane.taken
  pub begun : length lane.left ≤ ops_of_last (last_of lane.taken)

-- how many operations are left in all lanes
abbrev pub all_left : List LaneView → ℕ
all_left lanes = sum_by (λ lane. length lane.left) lanes

-- A lane that took no batch yet.
pub record IsFresh (lane : LaneView) : Type 0 where
  pub taken : lane.taken ≡ []
  pub left : lane.left ≡ []
  pub in_place : lane.out ≡ false
