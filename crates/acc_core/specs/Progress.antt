-- How far a queue has come: the batches that it has taken, the operations that are left of them, and the one that comes next.
use Rattle.std.specs.Prelude.{◌≡◌, ℕ, List, [], ◌++◌, take, Option, None, slice_get, if◌then◌else◌}
use Rattle.acc_base.specs.declared.ids.QueueAt.{QueueAt}
use Rattle.acc_batch.specs.Labels.{on_queue, ops_of}
use Rattle.acc_batch.specs.declared.label.OpLabel.{OpLabel}
use Rattle.acc_core.specs.Machine.{State, is_there, labels_of, ops_left, taken_on}
use Rattle.acc_work.specs.Logs.{performed}

-- how many batches a queue has taken; one that isn't there none
abbrev pub taken_by : State → QueueAt → ℕ
taken_by w at = if is_there w at then taken_on w at else 0

-- what a queue has taken and not performed; one that isn't there nothing
abbrev pub left_there : State → QueueAt → List OpLabel
left_there w at = if is_there w at then ops_left w (labels_of w) at else []

-- What a queue has performed, and what is left, are the operations of the batches that it has taken, in order and once.
abbrev pub IsTakenInOrder : State → QueueAt → Type 0
IsTakenInOrder w at = performed at w.work ++ left_there w at ≡ ops_of (take (taken_by w at) (on_queue at (labels_of w)))

-- what a queue performs next, of what it has taken
abbrev pub next_by : State → QueueAt → Option OpLabel
next_by w at = if is_there w at then slice_get (ops_left w (labels_of w) at) 0 else None
