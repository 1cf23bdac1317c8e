-- A place history, the latest entry first, as what it leaves (OpenACC API 3.0, 2.6.7, Reference Counters). The counts go
-- with its directives: how many items the host of each had before it, the latest first. Closing is the project's own: once it
-- has begun no directive is accepted, and each queue gets a last batch.
use Rattle.std.specs.Prelude.{◌≡◌, ℕ, ◌+◌, ◌<◌, Bool, true, false, List, [], ◌∷◌, ◌++◌, drop, slice_index_or, None}
use Rattle.std.specs.List.{list_any}
use Rattle.acc_base.specs.declared.ids.QueueAt.{QueueAt}
use Rattle.acc_base.specs.declared.ids.TheConstants.{QUEUES}
use Rattle.acc_base.specs.Configurations.{Configuration, lengths_of}
use Rattle.acc_base.specs.Queues.{same_queue}
use Rattle.acc_batch.specs.Awaits.{close_label}
use Rattle.acc_place.specs.Directives.{Directive}
use Rattle.acc_place.specs.declared.directive.PlaceEntry.{PlaceEntry}
use Rattle.acc_place.specs.declared.directive.PlaceEntry.TheVariants as entry
use Rattle.acc_place.specs.Standings.{Standing, Walk, walk_of, counted_items, marks_behind, with_marks}
use Rattle.acc_place.specs.Accepting.{refusal}
use Rattle.acc_place.specs.Batches.{batch_of, labels_with, walk_at}
use Rattle.acc_place.specs.Regions.{regions_after}

-- no directive yet, over host arrays of these lengths
abbrev pub at_first : Configuration → Standing
at_first config = record { lengths = lengths_of config.arrays; marks = λ device. []; regions = []; labels = []; accepted = 0; closing = false; closed = [] }

abbrev pub after_walk : Standing → ℕ → ℕ → Directive → Walk → Standing
after_walk st host items_done d walk =
    record {
      lengths = st.lengths;
      marks = with_marks walk.device (marks_behind (st.marks walk.device) walk) st.marks;
      regions = regions_after host d d.kind (counted_items (st.marks walk.device) walk) st.regions;
      labels = labels_with (walk_at walk) host items_done st.labels (batch_of st walk);
      accepted = st.accepted + 1;
      closing = st.closing;
      closed = st.closed;
    }

abbrev pub after_directive : Standing → ℕ → ℕ → Directive → Standing
after_directive st host items_done d = after_walk st host items_done d (walk_of st host d)

-- A queue is closed: its last batch is placed, which is its close.
abbrev pub after_close : Standing → QueueAt → Standing
after_close st at = record st { labels = st.labels ++ close_label at st.labels ∷ []; closed = at ∷ st.closed }

abbrev pub is_closed : Standing → QueueAt → Bool
is_closed st at = list_any (λ q. same_queue q at) st.closed

unfoldable pub standing : Configuration → List PlaceEntry → List ℕ → Standing
standing config [] counts = at_first config
standing config (entry.Accepted host d ∷ before) counts =
    after_directive (standing config before (drop 1 counts)) host (slice_index_or counts 0 0) d
standing config (entry.Closing ∷ before) counts = record (standing config before counts) { closing = true }
standing config (entry.Closed at ∷ before) counts = after_close (standing config before counts) at

-- a queue of a device that is there
abbrev pub IsQueue : Configuration → QueueAt → Type 0
IsQueue config at = (at.device < config.devices) × (at.queue < QUEUES)

-- A queue can be closed once closing has begun, if it isn't closed yet.
pub record CanClose (config : Configuration) (st : Standing) (at : QueueAt) : Type 0 where
  pub there : IsQueue config at
  pub begun : st.closing ≡ true
  pub unplaced : is_closed st at ≡ false

-- Each directive was accepted after those before it; closing began once; and each queue was closed once, behind that.
abbrev pub AllAccepted : Configuration → List PlaceEntry → List ℕ → Type 0
AllAccepted config [] counts = Unit {0}
AllAccepted config (entry.Accepted host d ∷ before) counts =
    (refusal config (standing config before (drop 1 counts)) host d ≡ None) × AllAccepted config before (drop 1 counts)
AllAccepted config (entry.Closing ∷ before) counts =
    ((standing config before counts).closing ≡ false) × AllAccepted config before counts
AllAccepted config (entry.Closed at ∷ before) counts = CanClose config (standing config before counts) at × AllAccepted config before counts
