-- What the place lock holds: a place, and the end of each queue that sends.
use Rattle.std.specs.Prelude.{◌≡◌, ◌⊎◌, ℕ, ◌<◌, Bool, true, false, not, List, [], ◌∷◌, ◌++◌, length, map, Option, None, Some, slice_set}
use Rattle.acc_base.specs.declared.fault.Fault.{Fault}
use Rattle.acc_base.specs.declared.fault.Fault.TheVariants as fault
use Rattle.acc_base.specs.declared.fault.Fault.TheVariants.{QueueFull}
use Rattle.acc_base.specs.declared.ids.QueueAt.{QueueAt}
use Rattle.acc_base.specs.declared.ids.TheConstants.{QUEUES}
use Rattle.acc_base.specs.Configurations.{IsRefusal}
use Rattle.acc_base.specs.Queues.{queue_count, seat}
use Rattle.acc_batch.specs.declared.label.Label.{Label}
use Rattle.acc_batch.specs.Awaits.{close_label}
use Rattle.acc_batch.specs.Labels.{on_queue}
use Rattle.acc_place.specs.declared.directive.PlaceEntry.TheVariants as noted
use Rattle.acc_place.specs.declared.directive.Placed.{Placed}
use Rattle.acc_place.specs.Accepting.{refusal}
use Rattle.acc_place.specs.Answers.{answer_to}
use Rattle.acc_place.specs.Closing.{is_at_hand, place_after_begin}
use Rattle.acc_place.specs.Directives.{Directive}
use Rattle.acc_place.specs.Histories.{is_closed, IsQueue}
use Rattle.acc_place.specs.Plans.{PlaceView, label_in, standing_in}
use Rattle.acc_place.specs.Standings.{walk_of}
use Rattle.acc_queue.specs.Tied.{Line, IsFor, MayBeFull}
use Rattle.acc_run.specs.WorkSides.{line_in}

-- The place, and of each queue what its end has sent, by device, then in queue order.
pub record PlaceSideView : Type 0 where
  pub place : PlaceView
  pub lines : List Line

-- The end of a queue has the configuration's room, and has sent exactly the labels that were placed on it; and the queue's close is at
-- hand until it is placed.
pub record IsSent (p : PlaceView) (at : QueueAt) (line : Line) : Type 0 where
  pub here : line.at ≡ at
  pub room : line.room ≡ p.config.room
  pub sent : line.labels ≡ on_queue at (standing_in p).labels
  pub at_hand : is_at_hand p at ≡ not (is_closed (standing_in p) at)

-- What holds of a place side whenever its lock is free.
pub record IsPlaceSide (p : PlaceView) (ends : List Line) : Type 0 where
  pub each : (at : QueueAt) → IsQueue p.config at → IsSent p at (line_in ends at)
  pub count : length ends ≡ queue_count p.config

-- A batch can be sent on its queue: there is an end for it.
pub record CanSend (ends : List Line) (b : Label) : Type 0 where
  pub low : b.at.queue < QUEUES
  pub there : seat b.at < length ends
  pub for_it : IsFor (line_in ends b.at).at b

-- the ends, where that of a batch's queue has sent it
abbrev pub lines_with : List Line → Label → List Line
lines_with ends b = slice_set ends (seat b.at) (record (line_in ends b.at) { labels = (line_in ends b.at).labels ++ b ∷ [] })

abbrev pub lines_sent : List Line → Option Label → List Line
lines_sent ends None = ends
lines_sent ends (Some b) = lines_with ends b

-- there is a batch, and its queue held its room at some step
abbrev pub IsHeld : List Line → Option Label → Type 0
IsHeld ends None = ⊥
IsHeld ends (Some b) = MayBeFull (line_in ends b.at).room (line_in ends b.at).labels

-- the label of the batch that a host's directive places, if it places one
abbrev pub label_now : PlaceView → ℕ → ℕ → Directive → Option Label
label_now p host items_done d = label_in (standing_in p) host items_done (walk_of (standing_in p) host d)

-- A directive was accepted: it is the next of the history, with its host's count, and its batch was sent.
pub record HasPlaced (old new : PlaceSideView) (host items_done : ℕ) (d : Directive) (placed : Placed) : Type 0 where
  pub accepted : refusal old.place.config (standing_in old.place) host d ≡ None
  pub answer : placed ≡ answer_to (standing_in old.place) host d
  pub history : new.place.history ≡ noted.Accepted host d ∷ old.place.history
  pub counts : new.place.counts ≡ items_done ∷ old.place.counts
  pub config : new.place.config ≡ old.place.config
  pub closes : new.place.closes ≡ old.place.closes
  pub lines : new.lines ≡ lines_sent old.lines (label_now old.place host items_done d)

-- A directive could be accepted, but the queue of its batch held its room.
pub record IsFull (old : PlaceSideView) (host items_done : ℕ) (d : Directive) : Type 0 where
  pub accepted : refusal old.place.config (standing_in old.place) host d ≡ None
  pub held : IsHeld old.lines (label_now old.place host items_done d)

-- It was refused: nothing was sent, and the history is as it was.
pub record HasRefused (old new : PlaceSideView) (host items_done : ℕ) (d : Directive) (fault : Fault) : Type 0 where
  pub why : IsRefusal (refusal old.place.config (standing_in old.place) host d) fault ⊎ ((fault ≡ QueueFull) × IsFull old host items_done d)
  pub history : new.place.history ≡ old.place.history
  pub counts : new.place.counts ≡ old.place.counts
  pub config : new.place.config ≡ old.place.config
  pub closes : new.place.closes ≡ old.place.closes
  pub lines : new.lines ≡ old.lines

-- Only the end of a run is refused so: what was placed isn't performed, or the hosts' own lists and the histories differ.
abbrev pub is_of_ending : Fault → Bool
is_of_ending fault.Unfinished = true
is_of_ending fault.HostsDiffer = true
is_of_ending f = false

-- a place on which these queues were closed, the latest first
abbrev pub place_closed : PlaceView → List QueueAt → PlaceView
place_closed p ats = record p { history = map noted.Closed ats ++ p.history }

-- the ends, where each of these queues has sent its close, the latest first
abbrev pub lines_closed : PlaceSideView → List QueueAt → List Line
lines_closed s [] = s.lines
lines_closed s (at ∷ ats) = lines_with (lines_closed s ats) (close_label at (standing_in (place_closed s.place ats)).labels)

-- A queue was closed: its close was placed and sent.
pub record IsClosed (old new : PlaceSideView) (at : QueueAt) : Type 0 where
  pub history : new.place.history ≡ noted.Closed at ∷ old.place.history
  pub lines : new.lines ≡ lines_with old.lines (close_label at (standing_in old.place).labels)

-- Nothing was placed or sent.
pub record IsUnchanged (old new : PlaceSideView) : Type 0 where
  pub history : new.place.history ≡ old.place.history
  pub lines : new.lines ≡ old.lines

-- A queue is closed now, or it held its room.
pub record ClosesOne (old new : PlaceSideView) (at : QueueAt) (answer : Bool) : Type 0 where
  pub config : new.place.config ≡ old.place.config
  pub counts : new.place.counts ≡ old.place.counts
  pub change : IsUnchanged old new ⊎ IsClosed old new at
  pub closed : answer ≡ is_closed (standing_in new.place) at
  pub full : answer ≡ false → MayBeFull (line_in new.lines at).room (line_in new.lines at).labels

-- Some queues were closed, the latest first, and each of the first n queues that isn't held its room.
pub record ClosedFrom (old new : PlaceSideView) (n : ℕ) : Type 0 where
  pub closed : List QueueAt
  pub history : new.place.history ≡ map noted.Closed closed ++ old.place.history
  pub lines : new.lines ≡ lines_closed old closed
  pub config : new.place.config ≡ old.place.config
  pub counts : new.place.counts ≡ old.place.counts
  pub full : (at : QueueAt) → at.queue < QUEUES → seat at < n → is_closed (standing_in new.place) at ≡ false → MayBeFull (line_in new.lines at).room (line_in new.lines at).labels

-- Closing has begun, queues were closed, and each that isn't held its room.
abbrev pub HasClosed : PlaceSideView → PlaceSideView → Type 0
HasClosed old new = ClosedFrom (record old { place = place_after_begin old.place }) new (queue_count new.place.config)
