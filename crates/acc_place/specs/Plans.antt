-- What a place shows and what it answers to a directive; what a plan is, and when it fits.
use Rattle.std.specs.Prelude.{◌≡◌, ℕ, ◌+◌, ◌*◌, ◌<◌, ◌≤◌, zero, suc, Bool, List, [], ◌∷◌, ◌++◌, length, slice_get, slice_index_or, Option, Some, None}
use Rattle.acc_base.specs.declared.ids.QueueAt.{QueueAt}
use Rattle.acc_base.specs.Configurations.{Configuration}
use Rattle.acc_base.specs.Queues.{seat}
use Rattle.acc_batch.specs.declared.label.Label.{Label}
use Rattle.acc_batch.specs.declared.label.OpLabel.{OpLabel}
use Rattle.acc_batch.specs.Labels.{on_queue}
use Rattle.acc_present.specs.Presences.{presences}
use Rattle.acc_place.specs.Directives.{Directive}
use Rattle.acc_place.specs.declared.directive.DataItem.{DataItem}
use Rattle.acc_place.specs.declared.directive.Kind.{Kind}
use Rattle.acc_place.specs.declared.directive.Kind.TheVariants as kind
use Rattle.acc_place.specs.declared.directive.Placed.{Placed}
use Rattle.acc_place.specs.declared.directive.PlaceEntry.{PlaceEntry}
use Rattle.acc_place.specs.declared.directive.PlaceEntry.TheVariants.{Accepted}
use Rattle.acc_place.specs.declared.directive.Region.{Region}
use Rattle.acc_place.specs.declared.directive.TheConstants.{MAX_ITEMS}
use Rattle.acc_place.specs.Accepting.{refusal}
use Rattle.acc_place.specs.Answers.{answer_to}
use Rattle.acc_place.specs.Batches.{batch_of, next_number, walk_at}
use Rattle.acc_place.specs.Histories.{standing}
use Rattle.acc_place.specs.Regions.{region_of}
use Rattle.acc_place.specs.Standings.{Standing, Walk, counted_items, walk_of}

-- For how many entries of the place history, but for those of closing, counts, answers, open data constructs, batches of each
-- queue, but for its close, by device, then in queue order, and present ranges of each device there is room, those that are
-- there among them.
pub record Room : Type 0 where
  pub entries : ℕ
  pub counts : ℕ
  pub answers : ℕ
  pub regions : ℕ
  pub batches : List ℕ
  pub ranges : List ℕ

-- The configuration, the place history with its counts, the latest first; of which queues the close is at hand, by device, then
-- in queue order; and the room.
pub record PlaceView : Type 0 where
  pub config : Configuration
  pub history : List PlaceEntry
  pub counts : List ℕ
  pub closes : List Bool
  pub room : Room

abbrev pub standing_in : PlaceView → Standing
standing_in p = standing p.config p.history p.counts

-- There is room for one more directive with a batch on this queue: in the histories, for its answer, among the regions and the
-- queue's batches, and in the device's table for its items and their ends.
pub record IsRoomy (p : PlaceView) (at : QueueAt) : Type 0 where
  pub entries : length p.history < p.room.entries
  pub counts : length p.counts < p.room.counts
  pub answers : length p.counts < p.room.answers
  pub regions : length (standing_in p).regions < p.room.regions
  pub batches : length (on_queue at (standing_in p).labels) < slice_index_or p.room.batches (seat at) 0
  pub ranges : length (presences ((standing_in p).marks at.device)) + 2 * MAX_ITEMS ≤ slice_index_or p.room.ranges at.device 0

-- the n-th batch of a queue, from 1
abbrev pub nth_batch : List Label → ℕ → Option Label
nth_batch labels zero = None
nth_batch labels (suc n) = slice_get labels n

-- the queue of a host's directive
abbrev pub queue_for : PlaceView → ℕ → Directive → QueueAt
queue_for p host d = walk_at (walk_of (standing_in p) host d)

-- A directive of a host with so many items before it; the region that it opens, if it opens one; the label of its batch,
-- if it isn't empty, and the batch, until it is handed out; what it is answered; and how many entries the place history had.
pub record PlanView : Type 0 where
  pub host : ℕ
  pub items_done : ℕ
  pub directive : Directive
  pub region : Option Region
  pub label : Option Label
  pub batch : Option Label
  pub answer : Placed
  pub stamp : ℕ

abbrev pub label_for : QueueAt → ℕ → ℕ → ℕ → List OpLabel → Option Label
label_for at number host items_done [] = None
label_for at number host items_done (op ∷ ops) =
    Some (record { at = at; number = number; host = host; items_done = items_done; ops = op ∷ ops })

-- the label of the batch that a walk places
abbrev pub label_in : Standing → ℕ → ℕ → Walk → Option Label
label_in st host items_done walk =
    label_for (walk_at walk) (next_number (walk_at walk) st.labels) host items_done (batch_of st walk)

-- the region that a directive opens, with the items that it counts
abbrev pub opened_region : ℕ → Directive → Kind → List DataItem → Option Region
opened_region host d kind.Data counted = Some (region_of host d counted)
opened_region host d k counted = None

abbrev pub region_in : Standing → ℕ → Directive → Walk → Option Region
region_in st host d walk = opened_region host d d.kind (counted_items (st.marks walk.device) walk)

-- The place would accept the directive now, with that region, that label and that answer, and has the room for it.
pub record Fits (p : PlaceView) (q : PlanView) : Type 0 where
  pub accepted : refusal p.config (standing_in p) q.host q.directive ≡ None
  pub region : q.region ≡ region_in (standing_in p) q.host q.directive (walk_of (standing_in p) q.host q.directive)
  pub labelled : q.label ≡ label_in (standing_in p) q.host q.items_done (walk_of (standing_in p) q.host q.directive)
  pub answered : q.answer ≡ answer_to (standing_in p) q.host q.directive
  pub roomy : IsRoomy p (queue_for p q.host q.directive)

-- What accepting adds. The room is the same, with less of it left.
abbrev pub place_after : PlaceView → PlanView → PlaceView
place_after p q =
    record p { history = Accepted q.host q.directive ∷ p.history; counts = q.items_done ∷ p.counts }

-- The plan was made of this place, now or before; and if nothing was accepted or closed since, the room is still there.
pub record IsPlanOf (p : PlaceView) (q : PlanView) : Type 0 where
  pub history_then : List PlaceEntry
  pub history_since : List PlaceEntry
  pub counts_then : List ℕ
  pub counts_since : List ℕ
  pub room_then : Room
  pub history : p.history ≡ history_since ++ history_then
  pub counts : p.counts ≡ counts_since ++ counts_then
  pub counted : length counts_since ≤ length history_since
  pub stamped : q.stamp ≡ length history_then
  pub fitted : Fits (record { config = p.config; history = history_then; counts = counts_then; closes = []; room = room_then }) q
  pub roomy : history_since ≡ [] → IsRoomy p (queue_for p q.host q.directive)

-- A plan stays one of its place where another directive is accepted,
abbrev pub KeptByAccepting : Type 0
KeptByAccepting = (p : PlaceView) (q other : PlanView) → IsPlanOf p q → IsPlanOf (place_after p other) q

-- and where one is planned, which changes the room alone.
abbrev pub KeptByPlanning : Type 0
KeptByPlanning =
    (p after : PlaceView) (q : PlanView) → after.config ≡ p.config → after.history ≡ p.history → after.counts ≡ p.counts
    → ((at : QueueAt) → IsRoomy p at → IsRoomy after at) → IsPlanOf p q → IsPlanOf after q

-- It stays one, and fits as it did, where its batch is handed out.
abbrev pub without_batch : PlanView → PlanView
without_batch q = record q { batch = None }

abbrev pub KeptByTaking : Type 0
KeptByTaking = (p : PlaceView) (q : PlanView) → (IsPlanOf p q → IsPlanOf p (without_batch q)) × (Fits p q → Fits p (without_batch q))
