-- What holds of a work log against the labels of the batches that were placed (OpenACC API 3.0, 2.16, Asynchronous Behavior).
use Rattle.std.specs.Prelude.{◌≡◌, ◌↔◌, ℕ, ◌≤◌, IsTrue, List, [], ◌∷◌, ◌++◌, length, take, All, ℤ}
use Rattle.acc_base.specs.declared.ids.QueueAt.{QueueAt}
use Rattle.acc_batch.specs.declared.label.Label.{Label}
use Rattle.acc_batch.specs.declared.label.OpLabel.{OpLabel}
use Rattle.acc_batch.specs.declared.label.OpLabel.TheVariants.{Await}
use Rattle.acc_batch.specs.Labels.{on_queue, ops_of, batch_at, whole_batches}
use Rattle.acc_memory.specs.Values.{values_of}
use Rattle.acc_batch.specs.declared.entry.Told.{Told}
use Rattle.acc_batch.specs.declared.entry.Told.TheVariants.{Write, Print, Seen, Test}
use Rattle.acc_batch.specs.declared.entry.WorkEntry.{WorkEntry}
use Rattle.acc_batch.specs.declared.entry.WorkEntry.TheVariants as entry
use Rattle.acc_work.specs.Logs.{performed, value, batches_done, all_done, host_allows}

abbrev pub IsPrefix : List OpLabel → List OpLabel → Type 0
IsPrefix xs ys = (more : List OpLabel) × (xs ++ more ≡ ys)

-- What a queue has performed is a prefix of what was placed on it, in order and once.
abbrev pub InOrder : List Label → List WorkEntry → Type 0
InOrder labels work = (at : QueueAt) → IsPrefix (performed at work) (ops_of (on_queue at labels))

-- Each item of the hosts shows what is so at its place.
abbrev pub ShowsTruth : List (List ℤ) → List Label → Told → List WorkEntry → Type 0
ShowsTruth initial labels (Write array cell new_value) before = Unit {0}
ShowsTruth initial labels (Print range values) before = values ≡ values_of (value initial before) range
ShowsTruth initial labels (Seen device counts) before = IsTrue (all_done labels before device 0 counts)
ShowsTruth initial labels (Test device answer counts) before = answer ≡ all_done labels before device 0 counts

-- Each operation stands behind its host's items, and each item shows the truth.
abbrev pub InHostOrder : List (List ℤ) → List Label → List WorkEntry → Type 0
InHostOrder initial labels [] = Unit {0}
InHostOrder initial labels (entry.Op at op ∷ before) =
    IsTrue (host_allows (batch_at (on_queue at labels) (length (performed at before))) before) × InHostOrder initial labels before
InHostOrder initial labels (entry.Item host shown ∷ before) =
    ShowsTruth initial labels shown before × InHostOrder initial labels before

-- What an operation of a device awaits is performed.
abbrev pub IsReached : List Label → List WorkEntry → ℕ → OpLabel → Type 0
IsReached labels work device (Await q n) = n ≤ batches_done labels work (record { device = device; queue = q })
IsReached labels work device op = Unit {0}

-- Each operation, and each that stands behind an await in its queue, comes when what is awaited is performed.
abbrev pub AllAwaited : List Label → List WorkEntry → Type 0
AllAwaited labels [] = Unit {0}
AllAwaited labels (entry.Op at op ∷ before) =
    All (IsReached labels before at.device) (performed at before ++ op ∷ []) × AllAwaited labels before
AllAwaited labels (entry.Item host shown ∷ before) = AllAwaited labels before

-- The count of performed batches is the greatest n for which the operations of the first n batches are a prefix of what was
-- performed.
abbrev pub WholeIsGreatest : Type 0
WholeIsGreatest =
    (labels : List Label) (ops : List OpLabel) (n : ℕ) → IsPrefix ops (ops_of labels)
    → (n ≤ whole_batches labels (length ops)) ↔ ((n ≤ length labels) × IsPrefix (ops_of (take n labels)) ops)
