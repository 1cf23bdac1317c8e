-- A loop that is taken out of a lane and comes back, over the memory and the lane alone.
use Rattle.std.specs.Prelude.{◌≡◌, ℕ, List, length, true, Some, IfSome}
use Rattle.acc_base.specs.declared.ids.QueueAt.{QueueAt}
use Rattle.acc_batch.specs.declared.label.Label.{Label}
use Rattle.acc_batch.specs.declared.label.OpLabel.{OpLabel}
use Rattle.acc_kernel.specs.Jobs.{Use}
use Rattle.acc_kernel.specs.Kernels.{Loop}
use Rattle.acc_memory.specs.Memories.{MemoryView, HasRanges, held_blocks}
use Rattle.acc_work.specs.Jobs.{JobView, IsJobNext, IsLoaded}
use Rattle.acc_work.specs.Lanes.{LaneView, IsLoopNext, lane_with_out, last_of}

-- the next operation is a loop that may be performed on a device
pub record MayStart (m : MemoryView) (device : ℕ) (left : List OpLabel) : Type 0 where
  pub kernel : Loop
  pub uses : List Use
  pub next : IsLoopNext kernel uses left
  pub held : HasRanges (held_blocks m device) uses

-- a job stands at the place of a lane's next operation
pub record HasJob (lane : LaneView) (job : JobView) : Type 0 where
  pub label : Label
  pub last : last_of lane.taken ≡ Some label
  pub number : label.number ≡ job.number
  pub left : job.left ≡ length lane.left
  pub next : IsJobNext job.job lane.left

-- a job was taken out of its lane, with its inputs
pub record IsStarted (m : MemoryView) (old new : LaneView) (at : QueueAt) (job : JobView) : Type 0 where
  pub queue : job.at ≡ at
  pub place : HasJob old job
  pub loaded : IfSome job.job (IsLoaded m at.device)
  pub lane_is : new ≡ lane_with_out old true
