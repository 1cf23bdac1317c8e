-- How many operations each queue has, their closes apart. Only private contracts and proofs cite it.
use Rattle.std.specs.Prelude.{◌≡◌, ℕ, ◌+◌, ◌*◌, ◌<◌, nat_lt, ◌&&◌, ◌^◌, Bool, IsTrue, List, Option, Some, None, length, slice_index_or, slice_set, if◌then◌else◌}
use Rattle.acc_base.specs.declared.ids.QueueAt.{QueueAt}
use Rattle.acc_base.specs.declared.ids.TheConstants.{QUEUES}
use Rattle.acc_base.specs.Queues.{seat}
use Rattle.acc_batch.specs.declared.label.Label.{Label}
use Rattle.acc_batch.specs.declared.label.OpLabel.{OpLabel}
use Rattle.acc_host.specs.Discards.{discarded_on}
use Rattle.acc_place.specs.Sound.{is_close}
use Rattle.acc_report.specs.Reports.{Left}
use Rattle.acc_report.specs.Totals.{plain_ops}
use Rattle.acc_report.specs.declared.counted.Counted.{Counted}
use Rattle.acc_work.specs.Logs.{performed}
use Rattle.acc_batch.specs.declared.entry.WorkEntry.{WorkEntry}
use Rattle.acc_batch.specs.declared.entry.WorkEntry.TheVariants as entry

-- how many operations a batch has, but for closes
abbrev pub plain_count : Option Label → ℕ
plain_count None = 0
plain_count (Some l) = length (plain_ops l.ops)

-- a queue that has a count
abbrev pub has_seat : QueueAt → List ℕ → Bool
has_seat at counts = nat_lt at.queue QUEUES && nat_lt (seat at) (length counts)

-- one more for a queue, by device, then in queue order
abbrev pub one_counted : QueueAt → List ℕ → List ℕ
one_counted at counts = if has_seat at counts then slice_set counts (seat at) (slice_index_or counts (seat at) 0 + 1) else counts

-- the counts behind an operation of a queue
abbrev pub counted_behind : QueueAt → OpLabel → List ℕ → List ℕ
counted_behind at op counts = if is_close op then counts else one_counted at counts

-- and behind an entry of the work log
abbrev pub counted_with : WorkEntry → List ℕ → List ℕ
counted_with (entry.Op at op) counts = counted_behind at op counts
counted_with (entry.Item host what) counts = counts

-- Each queue of so many devices has the count of these operations of its.
pub record AreCounted (devices : ℕ) (ops : QueueAt → List OpLabel) (counts : List ℕ) : Type 0 where
  pub all : length counts ≡ devices * QUEUES
  pub each : (at : QueueAt) → at.device < devices → at.queue < QUEUES → slice_index_or counts (seat at) 0 ≡ length (plain_ops (ops at))

-- Each has the counts of what it has performed, and of what of it was discarded.
pub record IsCounted (left : Left) (counted : Counted) : Type 0 where
  pub done : AreCounted left.config.devices (λ at. performed at left.work) counted.performed.items
  pub gone : AreCounted left.config.devices (λ at. discarded_on at left.discarded) counted.discarded.items
