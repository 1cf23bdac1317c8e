-- A place that has made room, and what it plans then.
use Rattle.std.proofs.Common.{◌≡◌, ℕ, ◌<◌, false, List, length, Option, None, Result, Ok, Err, refl, sym, ap, subst, ◌∙◌}
use Rattle.std.specs.Prelude.{IfErr, IfOk, slice_index_or}
use Rattle.acc_base.specs.Configurations.{Configuration, IsRefusal}
use Rattle.acc_base.specs.Faults.{OnlyMemory}
use Rattle.acc_base.specs.declared.fault.Fault.{Fault}
use Rattle.acc_base.specs.declared.ids.QueueAt.{QueueAt}
use Rattle.acc_batch.specs.declared.label.Label.{Label}
use Rattle.acc_place.specs.Accepting.{refusal}
use Rattle.acc_place.specs.Batches.{is_answered, walk_at}
use Rattle.acc_place.specs.Directives.{Directive}
use Rattle.acc_place.specs.Histories.{AllAccepted, IsQueue}
use Rattle.acc_place.specs.Plans.{PlaceView, PlanView, queue_for, standing_in, Fits, IsPlanOf, IsRoomy, label_for, opened_region}
use Rattle.acc_place.specs.Standings.{Standing, walk_of}
use Rattle.acc_place.specs.declared.device.Device.{Device}
use Rattle.acc_place.specs.declared.directive.Placed.{Placed}
use Rattle.acc_place.specs.declared.directive.Region.{Region}
use Rattle.acc_place.specs.declared.judge.Known.{Known}
use Rattle.acc_place.specs.inner.Judging.{counted_steps}
use Rattle.acc_place.specs.inner.Noting.{notes_on}
use Rattle.acc_place.specs.inner.Places.{IsPlace}
use Rattle.acc_place.specs.inner.Trials.{behind_noted, fault_by, items_by, next_in, ops_by, placed_by, steps_by}
use Rattle.acc_place.proofs.AcceptedDirective.{device_in}
use Rattle.acc_place.proofs.StandingIn.{IsKnownOf, fits_known, known_of, memory_as, plan_of_now}

-- It shows the same as before but for its room.
pub record IsSame (p old : PlaceView) : Type 0 where
  pub config : p.config ≡ old.config
  pub history : p.history ≡ old.history
  pub counts : p.counts ≡ old.counts

pub same_as : (p made old : PlaceView) → p ≡ made → made.config ≡ old.config → made.history ≡ old.history → made.counts ≡ old.counts → IsSame p old
same_as p made old is config history counts =
    record {
      config = ap (λ (x : PlaceView). x.config) is ∙ config;
      history = ap (λ (x : PlaceView). x.history) is ∙ history;
      counts = ap (λ (x : PlaceView). x.counts) is ∙ counts;
    }

same_standing : (p old : PlaceView) → IsSame p old → standing_in p ≡ standing_in old
same_standing p old same = rw (← same.config, ← same.history, ← same.counts) refl

pub same_refusal : (p old : PlaceView) (host : ℕ) (d : Directive) → IsSame p old → refusal old.config (standing_in old) host d ≡ refusal p.config (standing_in p) host d
same_refusal p old host d same = rw (← same.config, ← same.history, ← same.counts) refl

-- what it knows, from its parts
pub known_there : {answers : List Placed} (p old : PlaceView) (host : ℕ) (d : Directive) (k : Known) (devices : List Device) (regions : List Region) (queues : List (List Label)) (n : ℕ) (v : Device) (at_queue : QueueAt)
    → IsSame p old → IsPlace p.config p.history p.counts answers devices regions queues
    → (standing_in old).closing ≡ false → d.device < old.config.devices → at_queue ≡ queue_for old host d → IsQueue old.config at_queue
    → n ≡ at_queue.device → v ≡ slice_index_or devices n v → k.config.now ≡ p.config → k.table.now ≡ v.table → k.opened ≡ v.opened → k.regions.now ≡ regions → k.accepted ≡ length p.history → k.at ≡ at_queue
    → k.labels.now.queues ≡ queues → IsKnownOf p host d k
known_there p old host d k devices regions queues n v at_queue same place early here is there =
    let standing = same_standing p old same in
    known_of p host d k devices regions queues n v at_queue place (ap (λ (st : Standing). st.closing) standing ∙ early) (subst (λ (x : Configuration). d.device < x.devices) (sym same.config) here)
    (is ∙ ap (λ (st : Standing). walk_at (walk_of st host d)) (sym standing)) (subst (λ (x : Configuration). IsQueue x at_queue) (sym same.config) there)

-- its plan is refused only for want of memory, where no fault of the directive's own stands
pub memory_refused : {A : Type 0} (given : Option Fault) → given ≡ None → (planned : Result A Fault) → OnlyMemory planned → IfErr planned (IsRefusal given)
memory_refused given none (Ok q) only = tt
memory_refused given none (Err f) only = memory_as given f none only

-- and else it fits
pub fits_there : (p : PlaceView) (host : ℕ) (d : Directive) (k : Known) (items_done : ℕ) → IsKnownOf p host d k → AllAccepted p.config p.history p.counts → fault_by k host d ≡ None → IsRoomy p (queue_for p host d)
    → k.accepted ≡ length p.history → (planned : Result PlanView Fault)
    → IfOk planned (λ q. (q.host ≡ host) × (q.items_done ≡ items_done) × (q.stamp ≡ k.accepted)) → IfOk planned (λ q. q.directive ≡ d)
    → IfOk planned (λ q. q.region ≡ opened_region host d d.kind (counted_steps (steps_by k host d)))
    → IfOk planned (λ q. q.label ≡ label_for k.at (next_in k) host items_done (behind_noted k (notes_on (device_in (standing_in p) host d) (standing_in p).labels) d (ops_by k host d) (steps_by k host d)))
    → IfOk planned (λ q. q.answer ≡ placed_by k d q.label (is_answered d.kind k.table.now.presences (items_by k host d)))
    → IfOk planned (λ q. Fits p q × IsPlanOf p q)
fits_there p host d k items_done known lawful none roomy accepted (Ok q) by is inside named told =
    let notes = notes_on (device_in (standing_in p) host d) (standing_in p).labels in
    let own = named ∙ ap (λ m. label_for k.at (next_in k) host m (behind_noted k notes d (ops_by k host d) (steps_by k host d))) (sym by.1) in
    let fits = fits_known p host d k q known lawful none by.0 is inside own told roomy in
    (fits, plan_of_now p q fits (by.2 ∙ accepted))
fits_there p host d k items_done known lawful none roomy accepted (Err f) by is inside named told = tt
