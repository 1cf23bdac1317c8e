-- Blocks that are live where a log's operations use them.
use Rattle.std.specs.Prelude.{◌≡◌, ℕ, Bool, ℤ, List, [], ◌∷◌, ◌++◌, map}
use Rattle.acc_base.specs.declared.ids.QueueAt.{QueueAt}
use Rattle.acc_batch.specs.declared.label.Label.{Label}
use Rattle.acc_batch.specs.declared.label.OpLabel.{OpLabel}
use Rattle.acc_batch.specs.Labels.{has_number, on_queue, ops_of}
use Rattle.acc_batch.specs.Lives.{Made, blocks_made, UsesLive, IsSound}
use Rattle.acc_batch.specs.declared.entry.WorkEntry.{WorkEntry}
use Rattle.acc_batch.specs.declared.entry.WorkEntry.TheVariants as entry
use Rattle.acc_work.specs.Logs.{performed, device_ops}
use Rattle.acc_work.specs.Orders.{InOrder, AllAwaited}

-- one of these operations made the block
abbrev pub was_made : List OpLabel → ℕ → Bool
was_made before block = has_number (map (λ (m : Made). m.block) (blocks_made before)) block

abbrev pub AllLive : List (List ℤ) → List WorkEntry → Type 0
AllLive arrays [] = Unit {0}
AllLive arrays (entry.Op at op ∷ before) = UsesLive arrays op (device_ops at.device before) × AllLive arrays before
AllLive arrays (entry.Item host shown ∷ before) = AllLive arrays before

-- Whatever the queues have performed, each queue's next operation uses live blocks.
abbrev pub AnyOrderIsLive : Type 0
AnyOrderIsLive =
    (arrays : List (List ℤ)) (labels : List Label) (work : List WorkEntry) (at : QueueAt) (op : OpLabel) (later : List OpLabel)
    → IsSound arrays labels → InOrder labels work → AllAwaited labels work
    → ops_of (on_queue at labels) ≡ performed at work ++ op ∷ later
    → UsesLive arrays op (device_ops at.device work)
