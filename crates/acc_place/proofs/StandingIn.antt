-- What a place knows of its standing, as a plan and an accepted directive need it.
use Rattle.std.proofs.Common.{inl, inr, subst, ◌≡◌, ℕ, zero, suc, ◌+◌, ◌-◌, ◌*◌, ◌<◌, ◌≤◌, Bool, true, false, cond, List, [], ◌∷◌, ◌++◌, length, map, get_or, Option, Some, None, refl, sym, ap, ◌∙◌, arith}
use Rattle.std.specs.Prelude.{All, IfSome, max, if◌then◌else◌, reverse, drop, take, slice_get, slice_index_or, slice_set}
use Rattle.std.specs.List.{flat_map}
use Rattle.std.specs.Option.{option_map, option_to_list}
use Rattle.std.proofs.lemmas.Bool.Decides.{eqb_tells}
use Rattle.std.proofs.lemmas.List.{length-reverse, length-append, length-set, reverse-append}
use Rattle.std.proofs.lemmas.List.Elements.{All-head, All-nil, All-tail}
use Rattle.std.proofs.lemmas.Option.{slice_get-get_or, slice_get_read, slice_get_within}
use Rattle.acc_base.specs.declared.fault.Fault.{Fault}
use Rattle.acc_base.specs.declared.fault.Fault.TheVariants.{Memory}
use Rattle.acc_base.specs.declared.ids.QueueAt.{QueueAt}
use Rattle.acc_base.specs.Configurations.{IsRefusal, Configuration, lengths_of}
use Rattle.acc_base.specs.declared.ids.TheConstants.{QUEUES}
use Rattle.acc_base.specs.Queues.{every_queue, queue_count, seat}
use Rattle.acc_batch.specs.declared.label.Label.{Label}
use Rattle.acc_batch.specs.declared.label.OpLabel.{OpLabel}
use Rattle.acc_batch.specs.Awaits.{with_awaits}
use Rattle.acc_batch.specs.Labels.{has_number, on_queue}
use Rattle.acc_batch.proofs.Seats.{set_here, set_there}
use Rattle.acc_present.specs.Notes.{HasNotes}
use Rattle.acc_present.specs.Lifetimes.{opened_lifetimes, live_lifetimes}
use Rattle.acc_present.specs.Presences.{Presence, presences}
use Rattle.acc_present.specs.Tables.{TableView}
use Rattle.acc_place.specs.declared.device.Device.{Device}
use Rattle.acc_place.specs.inner.Devices.{held_on, IsEmpty}
use Rattle.acc_place.specs.Closing.{KeptByClosing}
use Rattle.acc_place.specs.Directives.{Directive}
use Rattle.acc_place.specs.declared.directive.DataItem.{DataItem}
use Rattle.acc_place.specs.declared.directive.Kind.{Kind}
use Rattle.acc_place.specs.declared.directive.Kind.TheVariants.{Data, EndData, EnterData, ExitData, Update, Loop, Wait, AsyncTest, IsPresent}
use Rattle.acc_place.specs.declared.directive.Placed.{Placed}
use Rattle.acc_place.specs.declared.directive.PlaceEntry.{PlaceEntry}
use Rattle.acc_place.specs.declared.directive.PlaceEntry.TheVariants.{Accepted, Closing, Closed}
use Rattle.acc_place.specs.declared.directive.Region.{Region}
use Rattle.acc_place.specs.declared.directive.TheConstants.{MAX_ITEMS}
use Rattle.acc_place.specs.declared.judge.Known.{Known}
use Rattle.acc_place.specs.Accepting.{refusal}
use Rattle.acc_place.specs.Answers.{answer_to}
use Rattle.acc_place.specs.Batches.{answer_of, batch_of, count_of, counts_by, counts_queues, is_answered, next_number, operations_of, placed_batch, walk_at}
use Rattle.acc_place.specs.Histories.{at_first, standing, after_directive, AllAccepted, IsQueue}
use Rattle.acc_place.specs.inner.Places.{IsPlace, IsThere, IsTied, IsTiedOn, queue_in, queues_after}
use Rattle.acc_place.specs.Plans.{KeptByAccepting, KeptByPlanning, KeptByTaking, PlaceView, PlanView, Room, nth_batch, standing_in, IsRoomy, IsPlanOf, Fits, label_for, label_in, opened_region, region_in, place_after, queue_for}
use Rattle.acc_place.specs.Regions.{region_of, regions_after}
use Rattle.acc_place.specs.Standings.{Standing, Walk, all_visits, loop_in, subject_by, walk_of}
use Rattle.acc_place.specs.inner.Noting.{awaits_from, ended_range, last_made, last_used, note_found, notes_on, used_ranges}
use Rattle.acc_place.specs.Targets.{is_alone, queue_by, queues_named}
use Rattle.acc_place.specs.inner.Trials.{behind_noted, counts_in, fault_by, held_by, items_by, named_count, next_in, number_in, ops_by, placed_by, steps_by, IsKnown}
use Rattle.acc_place.specs.inner.Judging.{Holding, counted_steps, device_by, holding, holding_between, holding_behind, limit_fault, fault_or, first_fault_in, past_fault, run_in, marked_ops, all_steps}
use Rattle.acc_place.proofs.AcceptedDirective.{IsFree, IsTiedAt, accepted_device, counted_stepped, items_counted, device_in, few_for, items_in, label_at, labels_after, low_for, refused_by, is_free, tied_after, tied_beside, batch_is, ended_is, walk_known}
use Rattle.acc_place.proofs.NotesOn.{batch_planned}
use Rattle.acc_place.proofs.AwaitedNumbers.{same_for}
use Rattle.acc_place.proofs.LabelsSound.{by_kind_low}
use Rattle.acc_place.proofs.VisitLives.{ended_uses}
use Rattle.acc_place.proofs.EnteredRanges.{there_after, there_device}
use Rattle.acc_place.proofs.QueuesAfter.{none_placed, one_more, queue_there, seat_low}
use Rattle.acc_place.proofs.RegionsOn.{subject_device}
use Rattle.acc_place.proofs.SliceSet.{shown_at}
use Rattle.acc_place.proofs.TriedDirective.{all_taken}

pub reverse-push : {X : Type 0} (xs : List X) (x : X) → reverse (xs ++ x ∷ []) ≡ x ∷ reverse xs
reverse-push xs x = reverse-append xs (x ∷ [])

-- as many entries as the vector says
pub counted_by : {X : Type 0} (xs : List X) (n len : ℕ) → n ≡ len → len ≡ length xs → n ≡ length (reverse xs)
counted_by xs n len is same = is ∙ (same ∙ sym (length-reverse xs))

-- how many cells the host arrays have doesn't change
lengths_kept : (config : Configuration) (history : List PlaceEntry) (counts : List ℕ) → (standing config history counts).lengths ≡ lengths_of config.arrays
unfolding standing
lengths_kept config [] counts = refl
lengths_kept config (Accepted host d ∷ before) counts = lengths_kept config before (drop 1 counts)
lengths_kept config (Closing ∷ before) counts = lengths_kept config before counts
lengths_kept config (Closed at ∷ before) counts = lengths_kept config before counts

-- before closing each entry is a directive
pub early_history : (config : Configuration) (history : List PlaceEntry) (counts : List ℕ) → AllAccepted config history counts → (standing config history counts).closing ≡ false
    → length history ≡ (standing config history counts).accepted
unfolding standing
early_history config [] counts h early = refl
early_history config (Accepted host d ∷ before) counts h early = omega (arith, early_history config before (drop 1 counts) h.1 early)
early_history config (Closing ∷ before) counts h early = absurd cc
early_history config (Closed at ∷ before) counts h early = (let w : true ≡ false = sym h.0.begun ∙ early in absurd cc)

-- the items that were put in, and those of the directive
abbrev pub ArePut : PlaceView → ℕ → Directive → List DataItem → Type 0
ArePut p host d xs = xs ≡ take 17 (items_in (standing_in p) host d)

pub are_put : (p : PlaceView) (host : ℕ) (d : Directive) (regions : List Region) (xs : List DataItem) → (standing_in p).regions ≡ regions → xs ≡ take 17 (subject_by (lengths_of p.config.arrays) regions host d d.kind).items → ArePut p host d xs
are_put p host d regions xs here put =
    put ∙ (ap (λ rs. take 17 (subject_by (lengths_of p.config.arrays) rs host d d.kind).items) (sym here) ∙ ap (λ ls. take 17 (subject_by ls (standing_in p).regions host d d.kind).items) (sym (lengths_kept p.config p.history p.counts)))

-- What is known where a place tries a directive, on a device that is there.
pub record IsKnownOf (p : PlaceView) (host : ℕ) (d : Directive) (k : Known) : Type 0 where
  pub early : (standing_in p).closing ≡ false
  pub here : d.device < p.config.devices
  pub tied : IsTiedAt p.config (standing_in p) host d k.table.now k.opened
  pub config : k.config.now ≡ p.config
  pub regions : k.regions.now ≡ (standing_in p).regions
  pub accepted : k.accepted ≡ (standing_in p).accepted
  pub at_queue : k.at ≡ queue_for p host d
  pub labelled : (at : QueueAt) → queue_in k.labels.now.queues at ≡ on_queue at (standing_in p).labels

device_at : (p : PlaceView) (host : ℕ) (d : Directive) → (queue_for p host d).device ≡ device_in (standing_in p) host d
unfolding walk_of
device_at p host d = refl

-- where it acts
pub queue_is : (p : PlaceView) (host : ℕ) (d : Directive) → queue_for p host d ≡ record { device = device_by (standing_in p).regions host d d.kind; queue = queue_by d.kind d }
unfolding walk_of
queue_is p host d =
    let st = standing_in p in
    ap (λ n. record { device = n; queue = queue_by d.kind d }) (device_at p host d ∙ subject_device st.lengths st.regions host d d.kind)

pub known_in : (p : PlaceView) (host : ℕ) (d : Directive) (k : Known) → IsKnownOf p host d k → IsKnown k
known_in p host d k h =
    let st = standing_in p in
    let device : k.at.device ≡ device_in st host d = ap (λ (q : QueueAt). q.device) h.at_queue ∙ device_at p host d in
    record {
      capacity = h.tied.capacity ∙ ap (λ (config : Configuration). config.capacity) (sym h.config);
      low = low_for st k.table.now k.opened 16 h.tied (omega arith);
      few = few_for st k.table.now k.opened 16 h.tied (omega arith);
      entered = rw (h.regions, device) h.tied.entered;
    }

pub own_device : (p : PlaceView) (host : ℕ) (d : Directive) (k : Known) → IsKnownOf p host d k → k.at.device ≡ device_by k.regions.now host d d.kind
own_device p host d k h =
    let st = standing_in p in
    ap (λ (q : QueueAt). q.device) h.at_queue
    ∙ (device_at p host d ∙ (subject_device st.lengths st.regions host d d.kind ∙ ap (λ rs. device_by rs host d d.kind) (sym h.regions)))

-- what the place has, from its parts
pub known_of : {answers : List Placed} (p : PlaceView) (host : ℕ) (d : Directive) (k : Known) (devices : List Device) (regions : List Region) (queues : List (List Label)) (n : ℕ) (v : Device) (at_queue : QueueAt)
    → IsPlace p.config p.history p.counts answers devices regions queues → (standing_in p).closing ≡ false → d.device < p.config.devices → at_queue ≡ queue_for p host d → IsQueue p.config at_queue
    → n ≡ at_queue.device → v ≡ slice_index_or devices n v → k.config.now ≡ p.config → k.table.now ≡ v.table → k.opened ≡ v.opened → k.regions.now ≡ regions → k.accepted ≡ length p.history → k.at ≡ at_queue
    → k.labels.now.queues ≡ queues → IsKnownOf p host d k
known_of p host d k devices regions queues n v at_queue h early here is there device found config table blocks open_regions accepted at_k labels =
    let st = standing_in p in
    let get = slice_get_read devices (length devices) n v refl (omega (arith, device, there.0, h.tied.all_devices)) found in
    let own : IsTiedOn p.config st n v.table v.opened = h.tied.on_devices n v get in
    let acts : n ≡ device_in st host d = device ∙ (ap (λ (q : QueueAt). q.device) is ∙ device_at p host d) in
    record {
      early = early;
      here = here;
      tied = rw (table, blocks) (subst (λ m. IsTiedOn p.config st m v.table v.opened) acts own);
      config = config;
      regions = open_regions ∙ sym h.tied.inside;
      accepted = accepted ∙ early_history p.config p.history p.counts h.lawful early;
      at_queue = at_k ∙ is;
      labelled = λ at. ap (λ qs. queue_in qs at) labels ∙ h.tied.labelled at;
    }

-- its items are the directive's
items_known : (p : PlaceView) (host : ℕ) (d : Directive) (k : Known) → IsKnownOf p host d k → items_by k host d ≡ items_in (standing_in p) host d
items_known p host d k h =
    ap (λ rs. (subject_by (lengths_of k.config.now.arrays) rs host d d.kind).items) h.regions
    ∙ ap (λ ls. (subject_by ls (standing_in p).regions host d d.kind).items) (ap (λ c. lengths_of c.arrays) h.config ∙ sym (lengths_kept p.config p.history p.counts))

-- and so is the fault that is found
pub fault_known : (p : PlaceView) (host : ℕ) (d : Directive) (k : Known) → IsKnownOf p host d k → refusal p.config (standing_in p) host d ≡ fault_by k host d
fault_known p host d k h =
    let st = standing_in p in
    let items = items_by k host d in
    let fault : Configuration → ℕ → List Region → List DataItem → Option Fault =
    λ config n rs xs. fault_or (limit_fault n rs host d (length xs)) (fault_or (first_fault_in config d.kind (held_by k) xs) (past_fault (loop_in d.kind) xs)) in
    refused_by p.config st host d k.table.now k.opened h.tied h.early h.here
    ∙ (ap (fault p.config st.accepted st.regions) (sym (items_known p host d k h))
    ∙ (ap (λ n. fault p.config n st.regions items) (sym h.accepted)
    ∙ (ap (λ rs. fault p.config k.accepted rs items) (sym h.regions) ∙ ap (λ config. fault config k.accepted k.regions.now items) (sym h.config))))

pub refused_as : (given : Option Fault) (f : Fault) → given ≡ Some f → IsRefusal given f
refused_as given f is = rw is refl

pub memory_as : (given : Option Fault) (f : Fault) → given ≡ None → f ≡ Memory → IsRefusal given f
memory_as given f none is = rw none is

-- ## A directive that is accepted

pub free_in : (p : PlaceView) (q : PlanView) (t : TableView) (blocks : ℕ) → IsTiedAt p.config (standing_in p) q.host q.directive t blocks → Fits p q
    → IsFree p.config (standing_in p) q.host q.directive t blocks
free_in p q t blocks tied fits = is_free p.config (standing_in p) q.host q.directive t blocks tied fits.accepted

-- the items that are put in then are the directive's
pub put_then : (p : PlaceView) (q : PlanView) (t : TableView) (blocks : ℕ) (xs : List DataItem) → IsTiedAt p.config (standing_in p) q.host q.directive t blocks → Fits p q
    → ArePut p q.host q.directive xs → xs ≡ items_in (standing_in p) q.host q.directive
put_then p q t blocks xs tied fits put =
    put ∙ all_taken (items_in (standing_in p) q.host q.directive) (free_in p q t blocks tied fits).within.short

-- Where the directive of a plan that fits leaves its marks, and what is known there of its items.
pub record IsActedOn (p : PlaceView) (q : PlanView) (devices : List Device) (n : ℕ) (v : Device) (xs : List DataItem) : Type 0 where
  pub device : n ≡ device_in (standing_in p) q.host q.directive
  pub there : slice_get devices n ≡ Some v
  pub tied : IsTiedAt p.config (standing_in p) q.host q.directive v.table v.opened
  pub free : IsFree p.config (standing_in p) q.host q.directive v.table v.opened
  pub room : length v.table.presences + 2 * MAX_ITEMS ≤ v.table.room
  pub own : xs ≡ items_in (standing_in p) q.host q.directive

pub device_low : (p : PlaceView) (host : ℕ) (d : Directive) (devices : List Device) (regions rs : List Region) (queues : List (List Label)) (n : ℕ) → IsTied p.config (standing_in p) devices regions queues
    → d.device < p.config.devices → rs ≡ regions → n ≡ device_by rs host d d.kind → n < length devices
device_low p host d devices regions rs queues n tied here same is =
    let low = there_device p.config host d d.kind regions here tied.there in
    omega (arith, is ∙ ap (λ r. device_by r host d d.kind) same, low, tied.all_devices)

pub acted_on : (p : PlaceView) (q : PlanView) (devices : List Device) (regions rs : List Region) (queues : List (List Label)) (n : ℕ) (v : Device) (xs : List DataItem) → IsTied p.config (standing_in p) devices regions queues → Fits p q
    → p.room.ranges ≡ map (λ (w : Device). w.table.room) devices → rs ≡ regions → n ≡ device_by rs q.host q.directive q.directive.kind → v ≡ slice_index_or devices n v → ArePut p q.host q.directive xs
    → IsActedOn p q devices n v xs
acted_on p q devices regions rs queues n v xs tied fits rooms same is found put =
    let st = standing_in p in
    let d = q.directive in
    let low = device_low p q.host d devices regions rs queues n tied (accepted_device p.config st q.host d fits.accepted) same is in
    let device : n ≡ device_in st q.host d =
    is ∙ (ap (λ r. device_by r q.host d d.kind) (same ∙ sym tied.inside) ∙ sym (subject_device st.lengths st.regions q.host d d.kind)) in
    let there = slice_get_read devices (length devices) n v refl low found in
    let own : IsTiedAt p.config st q.host d v.table v.opened = subst (λ k. IsTiedOn p.config st k v.table v.opened) device (tied.on_devices n v there) in
    let at_room : slice_index_or p.room.ranges (queue_for p q.host d).device 0 ≡ v.table.room =
    ap (λ k. slice_index_or p.room.ranges k 0) (device_at p q.host d ∙ sym device) ∙ (ap (λ rs. slice_index_or rs n 0) rooms ∙ shown_at (λ (w : Device). w.table.room) devices n v 0 low found) in
    let presences_at : t_presences v ≡ presences (st.marks (queue_for p q.host d).device) = own.presences ∙ ap (λ k. presences (st.marks k)) (sym (device_at p q.host d)) in
    record {
      device = device;
      there = there;
      tied = own;
      free = is_free p.config st q.host d v.table v.opened own fits.accepted;
      room = omega (arith, fits.roomy.ranges, at_room, ap length presences_at);
      own = put_then p q v.table v.opened xs own fits put;
    }
  where
    t_presences : Device → List Presence
    t_presences w = w.table.presences

-- there is room for the label of its batch
pub label_room : (p : PlaceView) (q : PlanView) (devices : List Device) (regions : List Region) (queues : List (List Label)) → IsTied p.config (standing_in p) devices regions queues → Fits p q
    → IfSome q.label (λ l. (seat l.at < length queues) × (length (slice_index_or queues (seat l.at) []) < slice_index_or p.room.batches (seat l.at) 0))
label_room p q devices regions queues tied fits =
    let st = standing_in p in
    let d = q.directive in
    let at_queue = queue_for p q.host d in
    let here = accepted_device p.config st q.host d fits.accepted in
    let low : device_by regions q.host d d.kind < p.config.devices = there_device p.config q.host d d.kind regions here tied.there in
    let same : at_queue ≡ record { device = device_by regions q.host d d.kind; queue = queue_by d.kind d } =
    queue_is p q.host d ∙ ap (λ r. record { device = device_by r q.host d d.kind; queue = queue_by d.kind d }) tied.inside in
    let there : IsQueue p.config at_queue = subst (λ a. IsQueue p.config a) (sym same) (low, by_kind_low d.kind d) in
    let listed : on_queue at_queue st.labels ≡ slice_index_or queues (seat at_queue) [] = sym (tied.labelled at_queue) ∙ queue_there queues at_queue there.1 in
    rw fits.labelled
    (label_at (λ a. (seat a < length queues) × (length (slice_index_or queues (seat a) []) < slice_index_or p.room.batches (seat a) 0)) at_queue (next_number at_queue st.labels) q.host q.items_done (batch_of st (walk_of st q.host d))
    (seat_low p.config at_queue (length queues) there tied.all_queues, omega (arith, fits.roomy.batches, ap length listed)))

standing_after : (p : PlaceView) (q : PlanView) → standing_in (place_after p q) ≡ after_directive (standing_in p) q.host q.items_done q.directive
unfolding standing
standing_after p q = refl

-- the devices, one of which has changed
devices_after : (config : Configuration) (before after : Standing) (devices : List Device) (device : ℕ) (v : Device)
    → ((n : ℕ) (w : Device) → slice_get devices n ≡ Some w → IsTiedOn config before n w.table w.opened) → IsTiedOn config after device v.table v.opened
    → ((n : ℕ) (w : Device) → (device ≡ n → ⊥) → IsTiedOn config before n w.table w.opened → IsTiedOn config after n w.table w.opened)
    → (n : ℕ) (w : Device) → slice_get (slice_set devices device v) n ≡ Some w → IsTiedOn config after n w.table w.opened
devices_after config before after devices device v all own others n w is = elim (eqb_tells device n) [
  | inl here ↦
      let low : n < length devices = omega (arith, slice_get_within (slice_set devices device v) n w is, length-set devices device v) in
      let old = slice_get-get_or devices n v low in
      let set : slice_get (slice_set devices device v) n ≡ Some v = subst (λ k. slice_get (slice_set devices device v) k ≡ Some v) here.1 (set_here devices device (get_or devices n v) v (ap (slice_get devices) here.1 ∙ old)) in
      let same : v ≡ w = some_is v w (sym set ∙ is) in
      subst (λ x. IsTiedOn config after n x.table x.opened) same (subst (λ k. IsTiedOn config after k v.table v.opened) here.1 own)
  | inr away ↦ others n w away.1 (all n w (sym (set_there devices device n v away.1) ∙ is))
]
  where
    some_is : (a b : Device) → Some a ≡ Some b → a ≡ b
    some_is a b h = cc

-- the devices, regions and labels after a directive
tied_all : (p : PlaceView) (q : PlanView) (devices : List Device) (regions : List Region) (queues : List (List Label)) (v after : Device) → IsTied p.config (standing_in p) devices regions queues → Fits p q
    → slice_get devices (device_in (standing_in p) q.host q.directive) ≡ Some v
    → holding after.table.presences after.opened ≡ holding_behind q.directive.kind (holding v.table.presences v.opened) (items_in (standing_in p) q.host q.directive) → after.table.capacity ≡ v.table.capacity
    → HasNotes (notes_on (device_in (standing_in p) q.host q.directive) (after_directive (standing_in p) q.host q.items_done q.directive).labels) after.table.notes
    → IsTied p.config (after_directive (standing_in p) q.host q.items_done q.directive) (slice_set devices (device_in (standing_in p) q.host q.directive) after) (regions_after q.host q.directive q.directive.kind (items_counted (standing_in p) q.host q.directive) regions) (queues_after queues q.label)
unfolding walk_of
tied_all p q devices regions queues v after tied fits at_device is same noted =
    let st = standing_in p in
    let d = q.directive in
    let device = device_in st q.host d in
    let own = tied.on_devices device v at_device in
    let free = free_in p q v.table v.opened own fits in
    let walk = walk_of st q.host d in
    let low : device < p.config.devices = omega (arith, slice_get_within devices device v at_device, tied.all_devices) in
    let there : IsQueue p.config (walk_at walk) = (low, by_kind_low d.kind d) in
    let labels : (after_directive st q.host q.items_done d).labels ≡ st.labels ++ option_to_list q.label =
    labels_after (walk_at walk) q.host q.items_done st.labels (batch_of st walk) ∙ ap (λ o. st.labels ++ option_to_list o) (sym fits.labelled) in
    let queued : IfSome q.label (λ l. IsQueue p.config l.at) =
    rw fits.labelled (label_at (IsQueue p.config) (walk_at walk) (next_number (walk_at walk) st.labels) q.host q.items_done (batch_of st walk) there) in
    record {
      all_devices = length-set devices device after ∙ tied.all_devices;
      on_devices =
          devices_after p.config st (after_directive st q.host q.items_done d) devices device after tied.on_devices
          (tied_after p.config st d q.host q.items_done v.table after.table v.opened after.opened own free is same noted)
          (λ n w away on. tied_beside p.config st d q.host q.items_done n w.table w.opened away free.within.few on);
      inside = ap (regions_after q.host d d.kind (items_counted st q.host d)) tied.inside;
      there = there_after p.config q.host d d.kind (items_counted st q.host d) regions free.here tied.there;
      all_queues = queues_count queues q.label ∙ tied.all_queues;
      labelled = λ at_queue. one_more p.config queues st.labels q.label at_queue tied.all_queues queued (tied.labelled at_queue) ∙ ap (on_queue at_queue) (sym labels);
    }
  where
    queues_count : (qs : List (List Label)) (o : Option Label) → length (queues_after qs o) ≡ length qs
    queues_count qs None = refl
    queues_count qs (Some l) = length-set qs (seat l.at) _

accepted_place : (p : PlaceView) (q : PlanView) (answers : List Placed) (devices : List Device) (regions : List Region) (queues : List (List Label)) (v after : Device) → IsPlace p.config p.history p.counts answers devices regions queues → Fits p q
    → slice_get devices (device_in (standing_in p) q.host q.directive) ≡ Some v
    → holding after.table.presences after.opened ≡ holding_behind q.directive.kind (holding v.table.presences v.opened) (items_in (standing_in p) q.host q.directive) → after.table.capacity ≡ v.table.capacity
    → HasNotes (notes_on (device_in (standing_in p) q.host q.directive) (after_directive (standing_in p) q.host q.items_done q.directive).labels) after.table.notes
    → IsPlace p.config (Accepted q.host q.directive ∷ p.history) (q.items_done ∷ p.counts) (q.answer ∷ answers) (slice_set devices (device_in (standing_in p) q.host q.directive) after) (regions_after q.host q.directive q.directive.kind (items_counted (standing_in p) q.host q.directive) regions) (queues_after queues q.label)
accepted_place p q answers devices regions queues v after h fits at_device is same noted =
    let st = standing_after p q in
    record {
      counted = omega (arith, h.counted, ap (λ (k : Standing). k.accepted) st);
      lawful = (fits.accepted, h.lawful);
      answered = ap (λ a. a ∷ answers) fits.answered ∙ ap (λ before. answer_to (standing_in p) q.host q.directive ∷ before) h.answered;
      tied = rw st (tied_all p q devices regions queues v after h.tied fits at_device is same noted);
    }

abbrev pub viewed : Configuration → List PlaceEntry → List ℕ → List Bool → Room → PlaceView
viewed config history counts closes room = record { config = config; history = reverse history; counts = reverse counts; closes = closes; room = room }

-- the two vectors, which have the latest at their ends
pub pushed_view : (config : Configuration) (history history2 : List PlaceEntry) (counts counts2 : List ℕ) (closes : List Bool) (room : Room) (q : PlanView)
    → history2 ≡ history ++ Accepted q.host q.directive ∷ [] → counts2 ≡ counts ++ q.items_done ∷ [] → viewed config history2 counts2 closes room ≡ place_after (viewed config history counts closes room) q
pushed_view config history history2 counts counts2 closes room q more_history more_counts =
    let e : reverse history2 ≡ Accepted q.host q.directive ∷ reverse history = ap reverse more_history ∙ reverse-push history (Accepted q.host q.directive) in
    let f : reverse counts2 ≡ q.items_done ∷ reverse counts = ap reverse more_counts ∙ reverse-push counts q.items_done in
    rw (e, f) refl

pub place_pushed : (config : Configuration) (history history2 : List PlaceEntry) (counts counts2 : List ℕ) (answers answers2 : List Placed) (closes : List Bool) (room : Room) (q : PlanView) (devices devices2 : List Device) (regions regions2 : List Region) (queues queues2 : List (List Label)) (v after : Device)
    → history2 ≡ history ++ Accepted q.host q.directive ∷ [] → counts2 ≡ counts ++ q.items_done ∷ [] → answers2 ≡ answers ++ q.answer ∷ [] → regions2 ≡ regions_after q.host q.directive q.directive.kind (items_counted (standing_in (viewed config history counts closes room)) q.host q.directive) regions → queues2 ≡ queues_after queues q.label
    → devices2 ≡ slice_set devices (device_in (standing_in (viewed config history counts closes room)) q.host q.directive) after
    → IsPlace config (reverse history) (reverse counts) (reverse answers) devices regions queues → Fits (viewed config history counts closes room) q
    → slice_get devices (device_in (standing_in (viewed config history counts closes room)) q.host q.directive) ≡ Some v
    → holding after.table.presences after.opened ≡ holding_behind q.directive.kind (holding v.table.presences v.opened) (items_in (standing_in (viewed config history counts closes room)) q.host q.directive) → after.table.capacity ≡ v.table.capacity
    → HasNotes (notes_on (device_in (standing_in (viewed config history counts closes room)) q.host q.directive) (after_directive (standing_in (viewed config history counts closes room)) q.host q.items_done q.directive).labels) after.table.notes
    → IsPlace config (reverse history2) (reverse counts2) (reverse answers2) devices2 regions2 queues2
place_pushed config history history2 counts counts2 answers answers2 closes room q devices devices2 regions regions2 queues queues2 v after more_history more_counts more_answers more_regions more_queues more_devices h fits at_device is same noted =
    let e : reverse history2 ≡ Accepted q.host q.directive ∷ reverse history = ap reverse more_history ∙ reverse-push history (Accepted q.host q.directive) in
    let f : reverse counts2 ≡ q.items_done ∷ reverse counts = ap reverse more_counts ∙ reverse-push counts q.items_done in
    let g : reverse answers2 ≡ q.answer ∷ reverse answers = ap reverse more_answers ∙ reverse-push answers q.answer in
    rw (e, f, g, more_regions, more_queues, more_devices) (accepted_place (viewed config history counts closes room) q (reverse answers) devices regions queues v after h fits at_device is same noted)

-- ## The answer

answered : (st : Standing) (host items_done : ℕ) (walk : Walk) (label : Option Label) → label ≡ label_in st host items_done walk
    → option_map (λ (l : Label). (l.at, l.number)) label ≡ placed_batch (walk_at walk) st.labels (batch_of st walk)
answered st host items_done walk label is = ap (option_map (λ (l : Label). (l.at, l.number))) is ∙ by_ops (batch_of st walk)
  where
    by_ops : (ops : List OpLabel) → option_map (λ (l : Label). (l.at, l.number)) (label_for (walk_at walk) (next_number (walk_at walk) st.labels) host items_done ops) ≡ placed_batch (walk_at walk) st.labels ops
    by_ops [] = refl
    by_ops (op ∷ ops) = refl

-- only the question is answered, and it has its own items
asked_of : (lengths : List ℕ) (rs : List Region) (host : ℕ) (d : Directive) (k : Kind) (ps : List Presence) → is_answered k ps (subject_by lengths rs host d k).items ≡ is_answered k ps d.items
asked_of lengths rs host d Data ps = refl
asked_of lengths rs host d EndData ps = refl
asked_of lengths rs host d EnterData ps = refl
asked_of lengths rs host d (ExitData finalize) ps = refl
asked_of lengths rs host d (Update if_present) ps = refl
asked_of lengths rs host d (Loop kernel) ps = refl
asked_of lengths rs host d Wait ps = refl
asked_of lengths rs host d AsyncTest ps = refl
asked_of lengths rs host d IsPresent ps = refl

-- the counts of the named queues
counts_are : (counts : Bool) (queues : List (List Label)) (labels : List Label) (device : ℕ) (named : List ℕ) → ((at : QueueAt) → queue_in queues at ≡ on_queue at labels) → counts_in counts queues device named ≡ counts_by counts labels device named
counts_are true queues labels device named labelled =
    same_for (named_count queues device named) (count_of labels device named) every_queue
    (λ q. ap (λ ls. if has_number named q then length ls else 0) (labelled (record { device = device; queue = q })))
counts_are false queues labels device named labelled = refl

answer_is : (p : PlaceView) (host items_done : ℕ) (d : Directive) (t : TableView) (blocks : ℕ) (queues : List (List Label)) (label : Option Label) (counts : List ℕ) (present : Bool) → IsTiedAt p.config (standing_in p) host d t blocks
    → label ≡ label_in (standing_in p) host items_done (walk_of (standing_in p) host d) → ((at : QueueAt) → queue_in queues at ≡ on_queue at (standing_in p).labels)
    → counts ≡ counts_in (counts_queues d.kind (queue_by d.kind d)) queues (device_in (standing_in p) host d) (queues_named d) → present ≡ is_answered d.kind t.presences (items_in (standing_in p) host d)
    → record { batch = option_map (λ (l : Label). (l.at, l.number)) label; counts = counts; present = present } ≡ answer_to (standing_in p) host d
unfolding answer_of walk_of
answer_is p host items_done d t blocks queues label counts present tied named labelled counted found =
    let st = standing_in p in
    let walk = walk_of st host d in
    let told : present ≡ is_answered d.kind (presences (st.marks walk.device)) d.items = found ∙ (asked_of st.lengths st.regions host d d.kind t.presences ∙ ap (λ ps. is_answered d.kind ps d.items) tied.presences) in
    let all : counts ≡ counts_by (counts_queues d.kind walk.queue) st.labels walk.device walk.waits =
    counted ∙ counts_are (counts_queues d.kind walk.queue) queues st.labels walk.device walk.waits labelled in
    ap (λ b. record { batch = b; counts = counts; present = present }) (answered st host items_done walk label named)
    ∙ (ap (λ ns. record { batch = placed_batch (walk_at walk) st.labels (batch_of st walk); counts = ns; present = present }) all
    ∙ ap (λ v. record { batch = placed_batch (walk_at walk) st.labels (batch_of st walk); counts = counts_by (counts_queues d.kind walk.queue) st.labels walk.device walk.waits; present = v }) told)

-- ## Before the first directive

pub first_tied : (config : Configuration) (device : ℕ) (t : TableView) (blocks : ℕ) → t.presences ≡ [] → t.notes ≡ [] → t.capacity ≡ config.capacity → blocks ≡ 0 → IsTiedOn config (at_first config) device t blocks
unfolding presences live_lifetimes opened_lifetimes
first_tied config device t blocks none no_notes same no_blocks =
    record {
      capacity = same;
      presences = none;
      noted = rw no_notes (All-nil _);
      legal = tt;
      opened = no_blocks;
      entered = record { present = All-nil _; counted = rw none (All-nil _) };
      few = omega arith;
      few_blocks = omega (arith, no_blocks);
      low = rw none tt;
    }

pub first_place : (config : Configuration) (history : List PlaceEntry) (counts : List ℕ) (answers : List Placed) (devices : List Device) (regions : List Region) (queues : List (List Label)) → history ≡ [] → counts ≡ [] → answers ≡ [] → regions ≡ []
    → length devices ≡ config.devices → All (IsEmpty config) devices → length queues ≡ queue_count config → All (λ labels. labels ≡ []) queues → IsPlace config (reverse history) (reverse counts) (reverse answers) devices regions queues
unfolding standing
first_place config history counts answers devices regions queues no_history no_counts no_answers no_regions all_devices empty all_queues none =
    rw (no_history, no_counts, no_answers, no_regions)
    (record {
      counted = refl;
      lawful = tt;
      answered = refl;
      tied =
          record {
            all_devices = all_devices;
            on_devices = λ n v is. on_first n v (at_place devices n v empty is);
            inside = refl;
            there = All-nil (IsThere config);
            all_queues = all_queues;
            labelled = λ at_queue. none_placed queues at_queue none;
          };
    })
  where
    at_place : (vs : List Device) (n : ℕ) (v : Device) → All (IsEmpty config) vs → slice_get vs n ≡ Some v → IsEmpty config v
    at_place [] n v all is = absurd cc
    at_place (w ∷ vs) zero v all is = (let same : w ≡ v = cc in rw (← same) (All-head (IsEmpty config) w vs all))
    at_place (w ∷ vs) (suc n) v all is = at_place vs n v (All-tail (IsEmpty config) w vs all) is

    on_first : (n : ℕ) (v : Device) → IsEmpty config v → IsTiedOn config (at_first config) n v.table v.opened
    on_first n v e = first_tied config n v.table v.opened e.presences e.notes e.capacity e.opened

-- ## More room

tied_like : (config : Configuration) (st : Standing) (device : ℕ) (v w : Device) → held_on w ≡ held_on v → w.table.notes ≡ v.table.notes → w.table.capacity ≡ v.table.capacity → IsTiedOn config st device v.table v.opened → IsTiedOn config st device w.table w.opened
tied_like config st device v w held notes same tied =
    let presences_are : w.table.presences ≡ v.table.presences = ap (λ (h : Holding). h.presences) held in
    let opened_are : w.opened ≡ v.opened = ap (λ (h : Holding). h.opened) held in
    record {
      capacity = same ∙ tied.capacity;
      presences = presences_are ∙ tied.presences;
      noted = rw notes tied.noted;
      legal = tied.legal;
      opened = opened_are ∙ tied.opened;
      entered = rw presences_are tied.entered;
      few = tied.few;
      few_blocks = omega (arith, opened_are, tied.few_blocks);
      low = rw presences_are tied.low;
    }

-- a device that has more room
pub place_spared : {answers : List Placed} (config : Configuration) (history : List PlaceEntry) (counts : List ℕ) (devices : List Device) (regions : List Region) (queues : List (List Label)) (n : ℕ) (v w : Device) → IsPlace config history counts answers devices regions queues
    → n < config.devices → v ≡ slice_index_or devices n v → held_on w ≡ held_on v → w.table.notes ≡ v.table.notes → w.table.capacity ≡ v.table.capacity → IsPlace config history counts answers (slice_set devices n w) regions queues
place_spared config history counts devices regions queues n v w h low found held notes same =
    let st = standing config history counts in
    let there = slice_get_read devices (length devices) n v refl (omega (arith, low, h.tied.all_devices)) found in
    let own = tied_like config st n v w held notes same (h.tied.on_devices n v there) in
    record {
      counted = h.counted;
      lawful = h.lawful;
      answered = h.answered;
      tied =
          record {
            all_devices = length-set devices n w ∙ h.tied.all_devices;
            on_devices = devices_after config st st devices n w h.tied.on_devices own (λ k x away on. on);
            inside = h.tied.inside;
            there = h.tied.there;
            all_queues = h.tied.all_queues;
            labelled = h.tied.labelled;
          };
    }

-- what is roomy for as much as there is
pub roomy_by : (p q : PlaceView) (at_queue : QueueAt) → q.config ≡ p.config → q.history ≡ p.history → q.counts ≡ p.counts → length p.history < q.room.entries → length p.counts < q.room.counts → length p.counts < q.room.answers → length (standing_in p).regions < q.room.regions
    → length (on_queue at_queue (standing_in p).labels) < slice_index_or q.room.batches (seat at_queue) 0
    → length (presences ((standing_in p).marks at_queue.device)) + 2 * MAX_ITEMS ≤ slice_index_or q.room.ranges at_queue.device 0 → IsRoomy q at_queue
roomy_by p q at_queue config history counts entries counted answered regions batches ranges =
    let st : standing_in q ≡ standing_in p =
    ap (λ c. standing c q.history q.counts) config ∙ (ap (λ xs. standing p.config xs q.counts) history ∙ ap (standing p.config p.history) counts) in
    record {
      entries = omega (arith, entries, ap length history);
      counts = omega (arith, counted, ap length counts);
      answers = omega (arith, answered, ap length counts);
      regions = omega (arith, regions, ap (λ (s : Standing). length s.regions) st);
      batches = omega (arith, batches, ap (λ (s : Standing). length (on_queue at_queue s.labels)) st);
      ranges = omega (arith, ranges, ap (λ (s : Standing). length (presences (s.marks at_queue.device))) st);
    }

-- what is roomy stays so where no room falls
pub roomier : (p q : PlaceView) (at_queue : QueueAt) → q.config ≡ p.config → q.history ≡ p.history → q.counts ≡ p.counts → p.room.entries ≤ q.room.entries → p.room.counts ≤ q.room.counts → p.room.answers ≤ q.room.answers → p.room.regions ≤ q.room.regions
    → slice_index_or p.room.batches (seat at_queue) 0 ≤ slice_index_or q.room.batches (seat at_queue) 0 → slice_index_or p.room.ranges at_queue.device 0 ≤ slice_index_or q.room.ranges at_queue.device 0
    → IsRoomy p at_queue → IsRoomy q at_queue
roomier p q at_queue config history counts entries counted answered regions batches ranges h =
    roomy_by p q at_queue config history counts (omega (arith, h.entries, entries)) (omega (arith, h.counts, counted)) (omega (arith, h.answers, answered)) (omega (arith, h.regions, regions)) (omega (arith, h.batches, batches)) (omega (arith, h.ranges, ranges))

-- what is present on a device of a queue
pub present_there : (p : PlaceView) (devices : List Device) (regions : List Region) (queues : List (List Label)) (n : ℕ) (v : Device) (at_queue : QueueAt) → IsTied p.config (standing_in p) devices regions queues
    → n ≡ at_queue.device → at_queue.device < p.config.devices → v ≡ slice_index_or devices n v → length (presences ((standing_in p).marks at_queue.device)) ≡ length v.table.presences
present_there p devices regions queues n v at_queue tied is low found =
    let there = slice_get_read devices (length devices) n v refl (omega (arith, is, low, tied.all_devices)) found in
    let own = tied.on_devices n v there in
    ap (λ k. length (presences ((standing_in p).marks k))) (sym is) ∙ ap length (sym own.presences)

-- and what was placed on it
pub placed_there : (p : PlaceView) (devices : List Device) (regions : List Region) (queues : List (List Label)) (at_queue : QueueAt) → IsTied p.config (standing_in p) devices regions queues
    → IsQueue p.config at_queue → on_queue at_queue (standing_in p).labels ≡ slice_index_or queues (seat at_queue) []
placed_there p devices regions queues at_queue tied there = sym (tied.labelled at_queue) ∙ queue_there queues at_queue there.1

-- ## A plan

-- one for what the place knows
-- what is planned to stand behind its awaits is the definition's batch
batch_known : (p : PlaceView) (host : ℕ) (d : Directive) (k : Known) → IsKnownOf p host d k → AllAccepted p.config p.history p.counts → refusal p.config (standing_in p) host d ≡ None
    → behind_noted k (notes_on (device_in (standing_in p) host d) (standing_in p).labels) d (ops_by k host d) (steps_by k host d) ≡ batch_of (standing_in p) (walk_of (standing_in p) host d)
unfolding walk_of
batch_known p host d k h all none =
    let st = standing_in p in
    let walk = walk_of st host d in
    let device = device_in st host d in
    let ms = st.marks device in
    let notes = notes_on device st.labels in
    let free = is_free p.config st host d k.table.now k.opened h.tied none in
    let at : k.at ≡ walk_at walk = h.at_queue in
    let items = items_known p host d k h in
    let ops : ops_by k host d ≡ operations_of st walk =
    ap (λ xs. marked_ops (run_in (loop_in d.kind) xs (holding_between d.kind (held_by k) xs).presences) (all_steps d.kind (held_by k) xs)) items ∙ sym (batch_is p.config st host d k.table.now k.opened h.tied free) in
    let ended : flat_map ended_range (steps_by k host d) ≡ flat_map ended_uses (all_visits ms walk) =
    ap (λ xs. flat_map ended_range (all_steps d.kind (held_by k) xs)) items ∙ sym (ended_is p.config st host d k.table.now k.opened h.tied free) in
    let found : note_found notes k.table.now.presences ≡ note_found notes (presences ms) = ap (note_found notes) h.tied.presences in
    let own : k.at.device ≡ device = ap (λ (q : QueueAt). q.device) at in
    let numbers : ℕ → ℕ = number_in k notes (queues_named d) (ops_by k host d) (steps_by k host d) in
    let counted : (q : ℕ) → named_count k.labels.now.queues k.at.device (queues_named d) q ≡ count_of st.labels device (queues_named d) q =
    λ q. ap (λ n. named_count k.labels.now.queues n (queues_named d) q) own ∙ ap (λ ls. if has_number (queues_named d) q then length ls else 0) (h.labelled (record { device = device; queue = q })) in
    let each : (q : ℕ) → q < QUEUES → numbers q
    ≡ max (count_of st.labels walk.device walk.waits q)
    (max (last_made (note_found (notes_on walk.device st.labels) (presences (st.marks walk.device))) (flat_map used_ranges (operations_of st walk)) q)
    (last_used (note_found (notes_on walk.device st.labels) (presences (st.marks walk.device))) (flat_map ended_uses (all_visits (st.marks walk.device) walk)) q)) =
    λ q low.
    ap (λ n. max n (max (last_made (note_found notes k.table.now.presences) (flat_map used_ranges (ops_by k host d)) q) (last_used (note_found notes k.table.now.presences) (flat_map ended_range (steps_by k host d)) q))) (counted q)
    ∙ (ap (λ f. max (count_of st.labels device (queues_named d) q) (max (last_made f (flat_map used_ranges (ops_by k host d)) q) (last_used f (flat_map ended_range (steps_by k host d)) q))) found
    ∙ (ap (λ os. max (count_of st.labels device (queues_named d) q) (max (last_made (note_found notes (presences ms)) (flat_map used_ranges os) q) (last_used (note_found notes (presences ms)) (flat_map ended_range (steps_by k host d)) q))) ops
    ∙ ap (λ us. max (count_of st.labels device (queues_named d) q) (max (last_made (note_found notes (presences ms)) (flat_map used_ranges (operations_of st walk)) q) (last_used (note_found notes (presences ms)) us q))) ended)) in
    ap (λ (a : QueueAt). with_awaits (is_alone d) (awaits_from a.queue 0 (map numbers every_queue)) (ops_by k host d)) at
    ∙ (ap (λ os. with_awaits (is_alone d) (awaits_from walk.queue 0 (map numbers every_queue)) os) ops
    ∙ batch_planned p.config st walk (walk_known p.config p.history p.counts host d k.table.now k.opened all h.tied none) numbers each)

-- the region of a directive that opens none has no items
opened_alike : (host : ℕ) (d : Directive) (k : Kind) (xs ys : List DataItem) → (k ≡ Data → xs ≡ ys) → opened_region host d k xs ≡ opened_region host d k ys
opened_alike host d Data xs ys same = ap (λ is. Some (region_of host d is)) (same refl)
opened_alike host d EndData xs ys same = refl
opened_alike host d EnterData xs ys same = refl
opened_alike host d (ExitData finalize) xs ys same = refl
opened_alike host d (Update if_present) xs ys same = refl
opened_alike host d (Loop kernel) xs ys same = refl
opened_alike host d Wait xs ys same = refl
opened_alike host d AsyncTest xs ys same = refl
opened_alike host d IsPresent xs ys same = refl

pub fits_known : (p : PlaceView) (host : ℕ) (d : Directive) (k : Known) (q : PlanView) → IsKnownOf p host d k → AllAccepted p.config p.history p.counts → fault_by k host d ≡ None
    → q.host ≡ host → q.directive ≡ d → q.region ≡ opened_region host d d.kind (counted_steps (steps_by k host d))
    → q.label ≡ label_for k.at (next_in k) host q.items_done (behind_noted k (notes_on (device_in (standing_in p) host d) (standing_in p).labels) d (ops_by k host d) (steps_by k host d))
    → q.answer ≡ placed_by k d q.label (is_answered d.kind k.table.now.presences (items_by k host d)) → IsRoomy p (queue_for p host d) → Fits p q
fits_known p host d k q h all none by is inside named told roomy =
    let st = standing_in p in
    let refused = fault_known p host d k h ∙ none in
    let next : next_in k ≡ next_number (queue_for p host d) st.labels = ap (λ ls. length ls + 1) (h.labelled k.at ∙ ap (λ a. on_queue a st.labels) h.at_queue) in
    let labelled : q.label ≡ label_in st host q.items_done (walk_of st host d) =
    named
    ∙ (ap (label_for k.at (next_in k) host q.items_done) (batch_known p host d k h all refused)
    ∙ (ap (λ n. label_for k.at n host q.items_done (batch_of st (walk_of st host d))) next
    ∙ ap (λ w. label_for w (next_number (queue_for p host d) st.labels) host q.items_done (batch_of st (walk_of st host d))) h.at_queue)) in
    let device : k.at.device ≡ device_in st host d = ap (λ (a : QueueAt). a.device) h.at_queue ∙ device_at p host d in
    let counted = ap (λ n. counts_in (counts_queues d.kind (queue_by d.kind d)) k.labels.now.queues n (queues_named d)) device in
    let found = ap (is_answered d.kind k.table.now.presences) (items_known p host d k h) in
    let free = is_free p.config st host d k.table.now k.opened h.tied refused in
    let counts = λ (enters : d.kind ≡ Data).
    ap (λ items. counted_steps (all_steps d.kind (held_by k) items)) (items_known p host d k h) ∙ sym (counted_stepped p.config st host d k.table.now k.opened free enters) in
    rw (by, is)
    (record {
      accepted = refused;
      region = inside ∙ opened_alike host d d.kind (counted_steps (steps_by k host d)) (items_counted st host d) counts;
      labelled = labelled;
      answered = told ∙ answer_is p host q.items_done d k.table.now k.opened k.labels.now.queues q.label _ _ h.tied labelled h.labelled counted found;
      roomy = roomy;
    })

-- neither room nor plan depends on which closes are at hand
roomy_then : (p : PlaceView) (at_queue : QueueAt) (closes : List Bool) → IsRoomy p at_queue → IsRoomy (record p { closes = closes }) at_queue
roomy_then p at_queue closes h = record { entries = h.entries; counts = h.counts; answers = h.answers; regions = h.regions; batches = h.batches; ranges = h.ranges }

fits_then : (p : PlaceView) (q : PlanView) (closes : List Bool) → Fits p q → Fits (record p { closes = closes }) q
fits_then p q closes h = record { accepted = h.accepted; region = h.region; labelled = h.labelled; answered = h.answered; roomy = roomy_then p (queue_for p q.host q.directive) closes h.roomy }

-- a plan that was just made
pub plan_of_now : (p : PlaceView) (q : PlanView) → Fits p q → q.stamp ≡ length p.history → IsPlanOf p q
plan_of_now p q fits stamped =
    record {
      history_then = p.history;
      history_since = [];
      counts_then = p.counts;
      counts_since = [];
      room_then = p.room;
      history = refl;
      counts = refl;
      counted = omega arith;
      stamped = stamped;
      fitted = fits_then p q [] fits;
      roomy = λ none. fits.roomy;
    }

no_items : {X : Type 0} (xs : List X) → length xs ≡ 0 → xs ≡ []
no_items [] none = refl
no_items (x ∷ xs) none = absurd (omega (arith, none))

-- a plan fits as long as the history is as long as it was
pub still_fits : (p : PlaceView) (q : PlanView) → IsPlanOf p q → q.stamp ≡ length p.history → Fits p q
still_fits p q h same =
    let len : length p.history ≡ length h.history_since + length h.history_then = ap length h.history ∙ length-append h.history_since h.history_then in
    let none : h.history_since ≡ [] = no_items h.history_since (omega (arith, len, same, h.stamped)) in
    let none_counted : h.counts_since ≡ [] = no_items h.counts_since (omega (arith, h.counted, ap length none)) in
    let is_history : p.history ≡ h.history_then = h.history ∙ ap (λ xs. xs ++ h.history_then) none in
    let is_counts : p.counts ≡ h.counts_then = h.counts ∙ ap (λ xs. xs ++ h.counts_then) none_counted in
    let st : standing_in p ≡ standing p.config h.history_then h.counts_then = ap (λ xs. standing p.config xs p.counts) is_history ∙ ap (standing p.config h.history_then) is_counts in
    record {
      accepted = ap (λ s. refusal p.config s q.host q.directive) st ∙ h.fitted.accepted;
      region = h.fitted.region ∙ ap (λ s. region_in s q.host q.directive (walk_of s q.host q.directive)) (sym st);
      labelled = h.fitted.labelled ∙ ap (λ s. label_in s q.host q.items_done (walk_of s q.host q.directive)) (sym st);
      answered = h.fitted.answered ∙ ap (λ s. answer_to s q.host q.directive) (sym st);
      roomy = h.roomy none;
    }

-- and is one of the place also when another directive was accepted
pub plan_kept : KeptByAccepting
plan_kept p q other h =
    record {
      history_then = h.history_then;
      history_since = Accepted other.host other.directive ∷ h.history_since;
      counts_then = h.counts_then;
      counts_since = other.items_done ∷ h.counts_since;
      room_then = h.room_then;
      history = ap (λ xs. Accepted other.host other.directive ∷ xs) h.history;
      counts = ap (λ xs. other.items_done ∷ xs) h.counts;
      counted = omega (arith, h.counted);
      stamped = h.stamped;
      fitted = h.fitted;
      roomy = λ none. absurd (cc);
    }

-- or planned
pub plan_beside : KeptByPlanning
plan_beside p after q config history counts roomy h =
    let st : standing_in after ≡ standing_in p =
    ap (λ c. standing c after.history after.counts) config ∙ (ap (λ xs. standing p.config xs after.counts) history ∙ ap (standing p.config p.history) counts) in
    record {
      history_then = h.history_then;
      history_since = h.history_since;
      counts_then = h.counts_then;
      counts_since = h.counts_since;
      room_then = h.room_then;
      history = history ∙ h.history;
      counts = counts ∙ h.counts;
      counted = h.counted;
      stamped = h.stamped;
      fitted = rw config h.fitted;
      roomy = λ none. subst (λ s. IsRoomy after (walk_at (walk_of s q.host q.directive))) (sym st) (roomy (queue_for p q.host q.directive) (h.roomy none));
    }

-- and where closing goes on
plan_closed : (p : PlaceView) (q : PlanView) (e : PlaceEntry) → IsPlanOf p q → IsPlanOf (record p { history = e ∷ p.history }) q
plan_closed p q e h =
    record {
      history_then = h.history_then;
      history_since = e ∷ h.history_since;
      counts_then = h.counts_then;
      counts_since = h.counts_since;
      room_then = h.room_then;
      history = ap (λ xs. e ∷ xs) h.history;
      counts = h.counts;
      counted = omega (arith, h.counted);
      stamped = h.stamped;
      fitted = h.fitted;
      roomy = λ none. absurd (cc);
    }

plan_lent : (p : PlaceView) (q : PlanView) (closes : List Bool) → IsPlanOf p q → IsPlanOf (record p { closes = closes }) q
plan_lent p q closes h = plan_beside p (record p { closes = closes }) q refl refl refl (λ at_queue roomy. roomy_then p at_queue closes roomy) h

pub plan_at_closing : KeptByClosing
plan_at_closing p q at_queue h = (
  elim (standing_in p).closing as (λ v. IsPlanOf (record p { history = cond v p.history (Closing ∷ p.history) }) q) [ true ↦ h | false ↦ plan_closed p q Closing h ],
  plan_lent p q _ h,
  plan_lent p q _ h,
  plan_closed p q (Closed at_queue) h,
)

-- and whatever becomes of its batch
pub plan_with : (p : PlaceView) (q : PlanView) (batch : Option Label) → (IsPlanOf p q → IsPlanOf p (record q { batch = batch })) × (Fits p q → Fits p (record q { batch = batch }))
plan_with p q batch = (
  λ h. record {
    history_then = h.history_then;
    history_since = h.history_since;
    counts_then = h.counts_then;
    counts_since = h.counts_since;
    room_then = h.room_then;
    history = h.history;
    counts = h.counts;
    counted = h.counted;
    stamped = h.stamped;
    fitted = record { accepted = h.fitted.accepted; region = h.fitted.region; labelled = h.fitted.labelled; answered = h.fitted.answered; roomy = h.fitted.roomy };
    roomy = h.roomy;
  },
  λ h. record { accepted = h.accepted; region = h.region; labelled = h.labelled; answered = h.answered; roomy = h.roomy },
)

pub plan_without : KeptByTaking
plan_without p q = plan_with p q None

-- ## What is asked of a place

pub nth_is : (labels : List Label) (n : ℕ) → 0 < n → nth_batch labels n ≡ slice_get labels (n - 1)
nth_is labels zero some = absurd (omega arith)
nth_is labels (suc n) some = let e : suc n - 1 ≡ n = omega arith in ap (slice_get labels) (sym e)
