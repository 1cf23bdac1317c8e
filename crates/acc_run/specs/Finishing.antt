-- What a run leaves, by what each side keeps and what is compared at its end.
use Rattle.std.specs.Prelude.{◌≡◌, true, List, [], ◌∷◌, ◌++◌, drop, length, reverse}
use Rattle.acc_base.specs.declared.fault.Fault.{Fault}
use Rattle.acc_base.specs.declared.fault.Fault.TheVariants.{HostsDiffer, Memory, Unfinished}
use Rattle.acc_base.specs.declared.ids.QueueAt.{QueueAt}
use Rattle.acc_base.specs.Configurations.{Configuration}
use Rattle.acc_batch.specs.declared.label.Label.{Label}
use Rattle.acc_batch.specs.declared.label.OpLabel.{OpLabel}
use Rattle.acc_batch.specs.declared.label.OpLabel.TheVariants.{Close}
use Rattle.acc_batch.specs.Labels.{on_queue, ops_of}
use Rattle.acc_host.specs.declared.outcome.Discarded.{Discarded}
use Rattle.acc_host.specs.declared.outcome.Outcome.{Outcome}
use Rattle.acc_host.specs.Discards.{discarded_on}
use Rattle.acc_host.specs.Legality.{Histories, Legal, placed_labels}
use Rattle.acc_place.specs.Histories.{AllAccepted, IsQueue, standing}
use Rattle.acc_place.specs.Plans.{standing_in}
use Rattle.acc_work.specs.Kept.{IsKept}
use Rattle.acc_work.specs.Logs.{performed}
use Rattle.acc_work.specs.Works.{KeepsOrder, lane_at, taken_labels}
use Rattle.acc_run.specs.Agreement.{Agree}
use Rattle.acc_run.specs.PlaceSides.{PlaceSideView}
use Rattle.acc_run.specs.Tokens.{TokenView}
use Rattle.acc_run.specs.WorkSides.{WorkSideView, is_ended}

-- the histories of both sides
abbrev pub histories_in : PlaceSideView → WorkSideView → Histories
histories_in p w = record { config = p.place.config; history = p.place.history; counts = p.place.counts; work = w.work.work }

-- the histories that a run leaves
abbrev pub histories_of : Outcome → Histories
histories_of o = record { config = o.config; history = reverse o.places.items; counts = reverse o.counts.items; work = reverse o.works.items }

-- ## What a run leaves

-- Each queue has performed what was placed on it,
abbrev pub PerformedAll : Histories → Type 0
PerformedAll h = (at : QueueAt) → performed at h.work ≡ ops_of (on_queue at (placed_labels h))

-- and each that is there its close, last.
abbrev pub EndsWithClose : List OpLabel → Type 0
EndsWithClose ops = (before : List OpLabel) × (ops ≡ before ++ Close ∷ [])

abbrev pub AllClosedLast : Histories → Type 0
AllClosedLast h = (at : QueueAt) → IsQueue h.config at → EndsWithClose (performed at h.work)

-- What a finished run leaves: legal histories, with which the tokens agree; each queue has performed all that was placed on it, its
-- close last.
pub record Finished (tokens : List TokenView) (h : Histories) : Type 0 where
  pub legal : Legal h
  pub agree : Agree tokens h
  pub performed_all : PerformedAll h
  pub closed_last : AllClosedLast h

-- Of each queue, what was placed on it is what it has performed, and then these operations.
abbrev pub Leaves : Histories → (QueueAt → List OpLabel) → Type 0
Leaves h rest = (at : QueueAt) → ops_of (on_queue at (placed_labels h)) ≡ performed at h.work ++ rest at

-- What an abandoned run leaves: legal histories, with which the tokens agree; of each queue, behind what it has performed, what was
-- placed on it is discarded, in its order.
pub record Abandoned (tokens : List TokenView) (h : Histories) (list : List Discarded) : Type 0 where
  pub legal : Legal h
  pub agree : Agree tokens h
  pub leaves : Leaves h (λ at. discarded_on at list)

-- It has a count for each directive that was accepted.
abbrev pub HasCounts : Outcome → Type 0
HasCounts o = length o.counts.items ≡ (standing o.config (reverse o.places.items) (reverse o.counts.items)).accepted

-- ## What is compared

-- Each queue has performed its close.
abbrev pub AllEnded : Configuration → WorkSideView → Type 0
AllEnded config w = (at : QueueAt) → IsQueue config at → is_ended (lane_at w.work at) ≡ true

-- the batches that were placed on a queue, and that it didn't take
abbrev pub untaken_on : PlaceSideView → WorkSideView → QueueAt → List Label
untaken_on p w at = drop (length (on_queue at (taken_labels w.work))) (on_queue at (standing_in p.place).labels)

-- The batches that a queue took are the first that were placed on it.
abbrev pub TookFirst : PlaceSideView → WorkSideView → QueueAt → Type 0
TookFirst p w at = on_queue at (standing_in p.place).labels ≡ on_queue at (taken_labels w.work) ++ untaken_on p w at

abbrev pub AllTookFirst : Configuration → PlaceSideView → WorkSideView → Type 0
AllTookFirst config p w = (at : QueueAt) → IsQueue config at → TookFirst p w at

-- Both sides and the tokens are of one run: both sides were made for this configuration, each queue took the first of what was placed
-- on it, and the tokens agree with both histories.
pub record AreOfOneRun (config : Configuration) (p : PlaceSideView) (w : WorkSideView) (tokens : List TokenView) : Type 0 where
  pub placed_for : p.place.config ≡ config
  pub performed_for : w.config ≡ config
  pub taken : AllTookFirst config p w
  pub agree : Agree tokens (histories_in p w)

-- Why a run can't be finished: a queue hasn't performed its close; else the sides and the tokens aren't of one run.
abbrev pub CannotFinish : Configuration → PlaceSideView → WorkSideView → List TokenView → Fault → Type 0
CannotFinish config p w tokens Unfinished = AllEnded config w → ⊥
CannotFinish config p w tokens HostsDiffer = AllEnded config w × (AreOfOneRun config p w tokens → ⊥)
CannotFinish config p w tokens fault = ⊥

-- Why a run can't be abandoned: the sides and the tokens aren't of one run; else memory is refused.
abbrev pub CannotAbandon : Configuration → PlaceSideView → WorkSideView → List TokenView → Fault → Type 0
CannotAbandon config p w tokens HostsDiffer = AreOfOneRun config p w tokens → ⊥
CannotAbandon config p w tokens Memory = AreOfOneRun config p w tokens
CannotAbandon config p w tokens fault = ⊥

-- ## The laws

-- What every work side keeps: it is of its configuration, and its log keeps the order of its queues, and what every log does against
-- the batches that were taken.
pub record KeepsWork (w : WorkSideView) : Type 0 where
  pub arrays : w.work.arrays ≡ w.config.arrays
  pub devices : length w.work.memory.devices ≡ w.config.devices
  pub order : KeepsOrder w.work
  pub kept : IsKept w.work.arrays (taken_labels w.work) w.work.work

-- what is left of a queue: in its lane, and of the batches that it didn't take
abbrev pub left_on : PlaceSideView → WorkSideView → QueueAt → List OpLabel
left_on p w at = (lane_at w.work at).left ++ ops_of (untaken_on p w at)

-- A run that stops anywhere is legal, and leaves of each queue what is left of it;
abbrev pub StoppedSidesAreLegal : Type 0
StoppedSidesAreLegal =
    (config : Configuration) (p : PlaceSideView) (w : WorkSideView) (tokens : List TokenView)
    → AllAccepted p.place.config p.place.history p.place.counts → KeepsWork w
    → AreOfOneRun config p w tokens → Legal (histories_in p w) × Leaves (histories_in p w) (left_on p w)

-- and where each queue has performed its close, it is finished.
abbrev pub EndedSidesAreFinished : Type 0
EndedSidesAreFinished =
    (config : Configuration) (p : PlaceSideView) (w : WorkSideView) (tokens : List TokenView)
    → AllAccepted p.place.config p.place.history p.place.counts → KeepsWork w
    → AllEnded config w → AreOfOneRun config p w tokens → Finished tokens (histories_in p w)
