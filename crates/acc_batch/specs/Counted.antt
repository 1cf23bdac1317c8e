-- The counts of a device's queues, as they are held.
use Rattle.std.specs.Prelude.{ℕ, ◌<◌, List, replicate, slice_set}
use Rattle.acc_base.specs.declared.ids.TheConstants.{QUEUES}
use Rattle.acc_batch.specs.declared.counts.Form.{Form}
use Rattle.acc_batch.specs.declared.counts.Form.TheVariants.{One, All}

-- The count of one queue is this, and the others are 0.
abbrev pub one_count : ℕ → ℕ → List ℕ
one_count queue n = slice_set (replicate QUEUES 0) queue n

abbrev pub counts_of : Form → List ℕ
counts_of (One queue n) = one_count queue n
counts_of (All counts) = counts

-- The queue is there.
abbrev pub IsForm : Form → Type 0
IsForm (One queue n) = queue < QUEUES
IsForm (All counts) = Unit {0}
