-- What accepted directives place, on all devices and queues (OpenACC API 3.0, 2.16, Asynchronous Behavior).
use Rattle.std.specs.Prelude.{◌≡◌, ℕ, ◌<◌, Bool, true, false, List, [], ◌∷◌, length, All}
use Rattle.acc_base.specs.Configurations.{Configuration}
use Rattle.acc_base.specs.declared.ids.QueueAt.{QueueAt}
use Rattle.acc_base.specs.declared.ids.TheConstants.{QUEUES}
use Rattle.acc_batch.specs.declared.label.Label.{Label}
use Rattle.acc_batch.specs.declared.label.OpLabel.{OpLabel}
use Rattle.acc_batch.specs.declared.label.OpLabel.TheVariants.{Close}
use Rattle.acc_batch.specs.Labels.{on_queue, ops_of}
use Rattle.acc_batch.specs.Lives.{IsSound}
use Rattle.acc_batch.specs.Ops.{HasItsCells}
use Rattle.acc_place.specs.declared.directive.PlaceEntry.{PlaceEntry}
use Rattle.acc_place.specs.Histories.{AllAccepted, standing}

-- Labels of accepted directives use live blocks on each device in the order of placing, and await what they need.
abbrev pub AcceptedAreSound : Type 0
AcceptedAreSound =
    (config : Configuration) (history : List PlaceEntry) (counts : List ℕ) → AllAccepted config history counts
    → IsSound config.arrays (standing config history counts).labels

-- All that accepted directives place is on queues that are there, and each batch has an operation.
abbrev pub AcceptedAreThere : Type 0
AcceptedAreThere =
    (config : Configuration) (history : List PlaceEntry) (counts : List ℕ) → AllAccepted config history counts
    → All (λ (l : Label). (l.at.device < config.devices) × (l.at.queue < QUEUES) × (0 < length l.ops)) (standing config history counts).labels

-- the loops of a batch have their cells
abbrev pub HaveTheirCells : Label → Type 0
HaveTheirCells l = All HasItsCells l.ops

-- What each loop uses names each array at most once, and has all cells that the loop reaches.
abbrev pub AcceptedHaveTheirCells : Type 0
AcceptedHaveTheirCells =
    (config : Configuration) (history : List PlaceEntry) (counts : List ℕ) → AllAccepted config history counts
    → All HaveTheirCells (standing config history counts).labels

abbrev pub is_close : OpLabel → Bool
is_close Close = true
is_close op = false

-- No operation stands behind a close.
abbrev pub CloseLast : List OpLabel → Type 0
CloseLast [] = Unit {0}
CloseLast (op ∷ ops) = (is_close op ≡ true → ops ≡ []) × CloseLast ops

-- So it is on each queue.
abbrev pub AcceptedCloseLast : Type 0
AcceptedCloseLast =
    (config : Configuration) (history : List PlaceEntry) (counts : List ℕ) (at : QueueAt) → AllAccepted config history counts
    → CloseLast (ops_of (on_queue at (standing config history counts).labels))
