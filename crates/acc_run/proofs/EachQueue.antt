-- What was compared queue by queue holds of every queue; and one that isn't there has no batch.
use Rattle.std.proofs.Common.{inl, inr, ◌≡◌, ◌⊎◌, ℕ, ◌<◌, ◌≤◌, List, [], ◌∷◌, length, refl, ap, subst, ◌∙◌, arith}
use Rattle.std.specs.Prelude.{All}
use Rattle.std.proofs.lemmas.Bool.{cases_Bool, cases_lt}
use Rattle.std.proofs.lemmas.List.{get_or_past}
use Rattle.std.proofs.lemmas.List.Elements.{All-drop, All-filter, All-head, All-tail, All-weaker}
use Rattle.acc_base.specs.declared.ids.QueueAt.{QueueAt}
use Rattle.acc_base.specs.declared.ids.TheConstants.{QUEUES}
use Rattle.acc_base.specs.Configurations.{Configuration}
use Rattle.acc_base.specs.Queues.{at_seat, queue_count, seat, same_queue}
use Rattle.acc_base.proofs.SameQueue.{same_queue_is}
use Rattle.acc_batch.proofs.Seats.{one_seat, seat_absent, seat_there}
use Rattle.acc_batch.specs.declared.label.Label.{Label}
use Rattle.acc_batch.specs.Labels.{on_queue}
use Rattle.acc_place.specs.Plans.{standing_in}
use Rattle.acc_place.specs.Histories.{AllAccepted, IsQueue}
use Rattle.acc_place.proofs.LabelsThere.{labels_there}
use Rattle.acc_work.specs.Lanes.{LaneView, no_lane}
use Rattle.acc_work.specs.Works.{WorkView, KeepsOrder, lane_at, taken_labels}
use Rattle.acc_run.specs.Finishing.{AllTookFirst, TookFirst, untaken_on}
use Rattle.acc_run.specs.PlaceSides.{PlaceSideView}
use Rattle.acc_run.specs.WorkSides.{WorkSideView}

seat_place : (at : QueueAt) → at.queue < QUEUES → at_seat (seat at) ≡ at
seat_place at low = same_queue_is (at_seat (seat at)) at (one_seat (at_seat (seat at)) at (omega arith) low (omega arith))

-- what holds of the first queues, as many as there are, holds of each
pub at_each : (P : QueueAt → Type 0) (config : Configuration) (n : ℕ) → queue_count config ≤ n → ((k : ℕ) → k < n → P (at_seat k)) → (at : QueueAt) → IsQueue config at → P at
at_each P config n many all at there = subst P (seat_place at there.1) (all (seat at) (omega (arith, there.0, there.1, many)))

pub seat_is_queue : (config : Configuration) (k : ℕ) → k < queue_count config → IsQueue config (at_seat k)
seat_is_queue config k low = (omega (arith, low), omega arith)

-- a queue is there, or not
pub there_or_not : (config : Configuration) (at : QueueAt) → IsQueue config at ⊎ (IsQueue config at → ⊥)
there_or_not config at = elim (cases_lt at.device config.devices) [
  | inr beyond ↦ inr (λ there. omega (arith, beyond, there.0))
  | inl device ↦ (elim (cases_lt at.queue QUEUES) [ inl low ↦ inl (device, low) | inr past ↦ inr (λ there. omega (arith, past, there.1)) ])
]

-- ## A queue that isn't there has no batch

abbrev IsThere : Configuration → Label → Type 0
IsThere config l = (l.at.device < config.devices) × (l.at.queue < QUEUES) × (0 < length l.ops)

none_on : (config : Configuration) (at : QueueAt) (labels : List Label) → (IsQueue config at → ⊥) → All (IsThere config) labels → on_queue at labels ≡ []
none_on config at [] absent h = refl
none_on config at (l ∷ labels) absent h = elim (cases_Bool (same_queue l.at at)) [
  | inl same ↦ (let here = All-head (IsThere config) l labels h in absurd (absent (subst (IsQueue config) (same_queue_is l.at at same) (here.0, here.1))))
  | inr differ ↦ rw differ (none_on config at labels absent (All-tail (IsThere config) l labels h))
]

-- and no lane
pub no_lane_at : (config : Configuration) (w : WorkView) (at : QueueAt) → KeepsOrder w → length w.memory.devices ≡ config.devices → (IsQueue config at → ⊥) → lane_at w at ≡ no_lane
no_lane_at config w at keeps devices absent = elim (cases_lt at.queue QUEUES) [
  | inr past ↦ seat_absent no_lane w.lanes at past
  | inl low ↦ (elim (cases_lt at.device config.devices) [
    | inl there ↦ absurd (absent (there, low))
    | inr beyond ↦ (let past : length w.lanes ≤ seat at = omega (arith, keeps.count, devices, beyond) in seat_there no_lane w.lanes at low ∙ get_or_past w.lanes (seat at) no_lane past)
  ])
]

-- a queue that isn't there has no batch placed on it
pub none_placed : (p : PlaceSideView) (at : QueueAt) → AllAccepted p.place.config p.place.history p.place.counts → (IsQueue p.place.config at → ⊥) → on_queue at (standing_in p.place).labels ≡ []
none_placed p at accepted absent = none_on p.place.config at (standing_in p.place).labels absent (labels_there p.place.config p.place.history p.place.counts accepted)

-- So each queue took the first of what was placed on it, where each that is there did.
pub took_first : (p : PlaceSideView) (w : WorkSideView) → AllAccepted p.place.config p.place.history p.place.counts → KeepsOrder w.work → length w.work.memory.devices ≡ p.place.config.devices → AllTookFirst p.place.config p w
    → (at : QueueAt) → TookFirst p w at
took_first p w accepted keeps devices took at = elim (there_or_not p.place.config at) [
  | inl there ↦ took at there
  | inr absent ↦
      let placed = none_placed p at accepted absent in
      let taken : on_queue at (taken_labels w.work) ≡ [] = keeps.taken at ∙ ap (λ (l : LaneView). l.taken) (no_lane_at p.place.config w.work at keeps devices absent) in
      rw (placed, taken) refl
]

-- what was placed behind these batches has operations
pub held_filled : (p : PlaceSideView) (w : WorkSideView) (at : QueueAt) → AllAccepted p.place.config p.place.history p.place.counts → All (λ (l : Label). 0 < length l.ops) (untaken_on p w at)
held_filled p w at accepted =
    let filled = λ (l : Label). 0 < length l.ops in
    let all : All filled (standing_in p.place).labels =
    All-weaker (IsThere p.place.config) filled (λ (l : Label) (there : IsThere p.place.config l). there.2) (standing_in p.place).labels (labels_there p.place.config p.place.history p.place.counts accepted) in
    All-drop filled (length (on_queue at (taken_labels w.work))) (on_queue at (standing_in p.place).labels) (All-filter (λ (l : Label). same_queue l.at at) filled (standing_in p.place).labels all)
