-- What tells that a batch goes on. Only private contracts and proofs cite it.
use Rattle.std.specs.Prelude.{◌<◌, ◌≤◌, ◌+◌, length}
use Rattle.acc_base.specs.declared.ids.QueueAt.{QueueAt}
use Rattle.acc_core.specs.Machine.{State, labels_of}
use Rattle.acc_core.specs.Progress.{left_there, taken_by}
use Rattle.acc_work.specs.Logs.{batches_done}

-- Of what a queue has taken two operations are left, and all batches but the last are performed.
abbrev pub GoesOn : State → QueueAt → Type 0
GoesOn w at = (1 < length (left_there w at)) × (taken_by w at ≤ batches_done (labels_of w) w.work at + 1)
