-- A loop that is taken out of its lane, to be computed while others have the work side, and comes back (OpenACC API 3.0, 2.16,
-- Asynchronous Behavior).
use Rattle.std.specs.Prelude.{◌≡◌, ℕ, true, false, List, ◌∷◌, length, Option, Some, None, IfSome, is_some, ℤ}
use Rattle.acc_base.specs.declared.ids.QueueAt.{QueueAt}
use Rattle.acc_batch.specs.declared.label.Label.{Label}
use Rattle.acc_batch.specs.declared.label.OpLabel.{OpLabel}
use Rattle.acc_batch.specs.declared.label.OpLabel.TheVariants.{Run}
use Rattle.acc_kernel.specs.Jobs.{Use, Computation, computed, read_uses, shown}
use Rattle.acc_kernel.specs.Kernels.{Loop}
use Rattle.acc_memory.specs.Memories.{MemoryView, Shows}
use Rattle.acc_memory.specs.Values.{Cell, cells_by}
use Rattle.acc_work.specs.Lanes.{IsLoopNext, lanes_with, lane_with_out, last_of}
use Rattle.acc_work.specs.Works.{WorkView, HasPerformed, can_go, is_live, lane_at}

-- A job that is out: its queue, the number of its batch, and how many operations of the batch weren't performed, its loop among
-- them; and the computation, where there was room for one.
pub record JobView : Type 0 where
  pub at : QueueAt
  pub number : ℕ
  pub left : ℕ
  pub job : Option Computation

-- a computation with the outputs of its inputs
abbrev pub with_outputs : Computation → Computation
with_outputs c = record c { outputs = computed c }

-- The queue's next operation is a loop that can be performed now.
pub record StartsLoop (w : WorkView) (at : QueueAt) : Type 0 where
  pub kernel : Loop
  pub uses : List Use
  pub next : IsLoopNext kernel uses (lane_at w at).left
  pub can : can_go w at (lane_at w at).left ≡ true

-- the batch whose operations are left
abbrev pub IsNumbered : WorkView → QueueAt → ℕ → Type 0
IsNumbered w at number = (label : Label) × (last_of (lane_at w at).taken ≡ Some label) × (label.number ≡ number)

-- the inputs of a computation are what the memory shows on a device of what its loop reads
abbrev pub IsLoaded : MemoryView → ℕ → Computation → Type 0
IsLoaded m device c = (was : Cell → ℤ) → Shows m was → c.inputs ≡ shown (read_uses c.kernel c.uses) (cells_by c.uses device was)

-- the next operation is the computation's loop; without a computation, it is some loop
abbrev pub IsJobNext : Option Computation → List OpLabel → Type 0
IsJobNext None left = (k : Loop) × (uses : List Use) × IsLoopNext k uses left
IsJobNext (Some c) left = IsLoopNext c.kernel c.uses left

-- A room for the loop that comes next is taken, with the loop's computation in it.
abbrev pub TakesRoom : Option Computation → List OpLabel → Option Computation → Type 0
TakesRoom None left job = Unit {0}
TakesRoom (Some room) left job = IsLoopNext room.kernel room.uses left → is_some job ≡ true

-- A loop was taken out: its lane knows, and nothing else changed.
pub record HasStarted (old new : WorkView) (at : QueueAt) (job : JobView) : Type 0 where
  pub starts : StartsLoop old at
  pub queue : job.at ≡ at
  pub number : IsNumbered old at job.number
  pub left : job.left ≡ length (lane_at old at).left
  pub loop : IsJobNext job.job (lane_at old at).left
  pub loaded : IfSome job.job (IsLoaded old.memory at.device)
  pub new_is : new ≡ record old { lanes = lanes_with old.lanes at (lane_with_out (lane_at old at) true) }

-- The job is the one that is out of its lane.
pub record IsOut (w : WorkView) (job : JobView) : Type 0 where
  pub out : (lane_at w job.at).out ≡ true
  pub number : IsNumbered w job.at job.number
  pub left : job.left ≡ length (lane_at w job.at).left
  pub loop : IsJobNext job.job (lane_at w job.at).left

-- What becomes of a loop that was out: it is performed, over the cells as they are now; or, where a block that it uses isn't live
-- any more, its lane has it back, and nothing else changes.
pub data Commits (old new : WorkView) (at : QueueAt) : Type 0 where
  performed_now : (k : Loop) (uses : List Use) (ops : List OpLabel) → (lane_at old at).left ≡ Run k uses ∷ ops
      → is_live old at (lane_at old at).left ≡ true → HasPerformed old new at (Run k uses) ops → Commits old new at
  given_back : is_live old at (lane_at old at).left ≡ false
      → new ≡ record old { lanes = lanes_with old.lanes at (lane_with_out (lane_at old at) false) } → Commits old new at
