-- What a place keeps between directives. Only private contracts and proofs cite it.
use Rattle.std.specs.Prelude.{◌≡◌, ℕ, ◌+◌, ◌*◌, ◌<◌, ◌≤◌, Bool, true, false, not, nat_lt, List, [], length, filter, All, slice_get, slice_index_or, slice_set, ◌++◌, ◌∷◌, Option, Some, None, IfSome, is_some, if◌then◌else◌}
use Rattle.acc_base.specs.declared.ids.QueueAt.{QueueAt}
use Rattle.acc_base.specs.declared.ids.TheConstants.{QUEUES}
use Rattle.acc_base.specs.Configurations.{Configuration}
use Rattle.acc_base.specs.Queues.{queue_count, seat}
use Rattle.acc_batch.specs.declared.label.Label.{Label}
use Rattle.acc_batch.specs.Awaits.{close_label}
use Rattle.acc_batch.specs.Labels.{on_queue}
use Rattle.acc_present.specs.Legality.{AllLegal}
use Rattle.acc_present.specs.Lifetimes.{opened_lifetimes}
use Rattle.acc_present.specs.Notes.{HasNotes}
use Rattle.acc_present.specs.Presences.{presences}
use Rattle.acc_present.specs.Tables.{TableView}
use Rattle.acc_place.specs.declared.closes.Close.{Close}
use Rattle.acc_place.specs.declared.device.Device.{Device}
use Rattle.acc_place.specs.declared.directive.Placed.{Placed}
use Rattle.acc_place.specs.declared.directive.PlaceEntry.{PlaceEntry}
use Rattle.acc_place.specs.declared.directive.Region.{Region}
use Rattle.acc_place.specs.declared.directive.TheConstants.{MAX_ITEMS, MAX_DIRECTIVES}
use Rattle.acc_place.specs.Answers.{answers_of}
use Rattle.acc_place.specs.Closing.{ClosesQueue}
use Rattle.acc_place.specs.Counters.{IsEnteredBy, entered_ranges}
use Rattle.acc_place.specs.Histories.{is_closed, standing, AllAccepted, IsQueue}
use Rattle.acc_place.specs.inner.Noting.{notes_on}
use Rattle.acc_place.specs.Regions.{regions_on}
use Rattle.acc_place.specs.Standings.{Standing}
use Rattle.acc_place.specs.inner.Judging.{AllLow}

-- The labels of each queue's batches, by device, then in queue order, and for how many there is room.
pub record LabelsView : Type 0 where
  pub queues : List (List Label)
  pub room : List ℕ

-- those of a queue; one that isn't there has none
abbrev pub queue_in : List (List Label) → QueueAt → List Label
queue_in queues at = if nat_lt at.queue QUEUES then slice_index_or queues (seat at) [] else []

-- with one more label, if there is one
abbrev pub queues_after : List (List Label) → Option Label → List (List Label)
queues_after queues None = queues
queues_after queues (Some l) = slice_set queues (seat l.at) (slice_index_or queues (seat l.at) [] ++ l ∷ [])

-- The table of a device is that of the marks there, and its notes are those of the labels.
pub record IsTiedOn (config : Configuration) (st : Standing) (device : ℕ) (t : TableView) (blocks : ℕ) : Type 0 where
  pub capacity : t.capacity ≡ config.capacity
  pub presences : t.presences ≡ presences (st.marks device)
  pub noted : HasNotes (notes_on device st.labels) t.notes
  pub legal : AllLegal (st.marks device)
  pub opened : blocks ≡ length (opened_lifetimes (st.marks device))
  pub entered : IsEnteredBy (entered_ranges (regions_on device st.regions)) t.presences
  pub few : st.accepted ≤ MAX_DIRECTIVES
  pub few_blocks : blocks ≤ MAX_ITEMS * st.accepted
  pub low : AllLow (MAX_ITEMS * st.accepted) 0 t.presences

-- a region is on a device that is there
abbrev pub IsThere : Configuration → Region → Type 0
IsThere config r = r.device < config.devices

-- The devices, the regions and the labels are those of the histories.
pub record IsTied (config : Configuration) (st : Standing) (devices : List Device) (regions : List Region) (labels : List (List Label)) : Type 0 where
  pub all_devices : length devices ≡ config.devices
  pub on_devices : (device : ℕ) (v : Device) → slice_get devices device ≡ Some v → IsTiedOn config st device v.table v.opened
  pub inside : st.regions ≡ regions
  pub there : All (IsThere config) regions
  pub all_queues : length labels ≡ queue_count config
  pub labelled : (at : QueueAt) → queue_in labels at ≡ on_queue at st.labels

-- What a place keeps of its configuration and its histories.
pub record IsPlace (config : Configuration) (history : List PlaceEntry) (counts : List ℕ) (answers : List Placed) (devices : List Device) (regions : List Region) (labels : List (List Label)) : Type 0 where
  pub counted : length counts ≡ (standing config history counts).accepted
  pub lawful : AllAccepted config history counts
  pub answered : answers ≡ answers_of config history counts
  pub tied : IsTied config (standing config history counts) devices regions labels

-- ## Closes

-- how many entries of the history closing takes: one, and one for each queue
abbrev pub closing_entries : Configuration → ℕ
closing_entries config = queue_count config + 1

abbrev pub no_close : Close
no_close = record { batch = None; label = None }

-- what is kept of a queue's close
abbrev pub close_in : List Close → QueueAt → Close
close_in closes at = slice_index_or closes (seat at) no_close

-- nothing was placed yet
abbrev pub new_close : QueueAt → Close
new_close at = record { batch = Some (close_label at []); label = Some (close_label at []) }

-- Its batch is kept unless it is out or placed, and its label until that is placed.
pub record IsCloseOf (st : Standing) (at : QueueAt) (c : Close) : Type 0 where
  pub batch : IfSome c.batch (ClosesQueue at)
  pub label : IfSome c.label (ClosesQueue at)
  pub unplaced : is_some c.batch ≡ true → is_closed st at ≡ false
  pub left : is_some c.label ≡ not (is_closed st at)

-- how many queues aren't closed yet, and how many entries closing still takes
abbrev pub closes_kept : List Close → ℕ
closes_kept closes = length (filter (λ (c : Close). is_some c.label) closes)

abbrev pub entries_left : Bool → List Close → ℕ
entries_left true closes = closes_kept closes
entries_left false closes = closes_kept closes + 1

-- The closes are those of the histories, and there is room for them, among so many entries of the history and so many
-- batches of each queue.
pub record KeepsCloses (config : Configuration) (st : Standing) (closing : Bool) (closes : List Close) (entries room : ℕ) (batches : List ℕ) : Type 0 where
  pub begun : closing ≡ st.closing
  pub all_queues : length closes ≡ queue_count config
  pub each : (at : QueueAt) → IsQueue config at → IsCloseOf st at (close_in closes at)
  pub history_room : entries + entries_left closing closes ≤ room
  pub label_room :
      (at : QueueAt) → IsQueue config at → is_closed st at ≡ false → length (on_queue at st.labels) ≤ slice_index_or batches (seat at) 0
