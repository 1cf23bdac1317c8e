-- The core as a machine. One step is determined but for a refusal of memory, which is the machine's free choice.
use Rattle.std.specs.Prelude.{◌≡◌, ℕ, zero, suc, ◌+◌, ◌-◌, ◌<◌, Bool, true, false, ◌&&◌, ◌||◌, not, nat_lt, ◌==◌, List, [], ◌∷◌, ◌++◌, length, replicate, take, drop, slice_get, slice_set, slice_index_or, Option, Some, None, Result, Ok, Err, if◌then◌else◌}
use Rattle.acc_base.specs.declared.ids.QueueAt.{QueueAt}
use Rattle.acc_base.specs.declared.ids.TheConstants.{QUEUES}
use Rattle.acc_base.specs.declared.fault.Fault.{Fault}
use Rattle.acc_base.specs.declared.fault.Fault.TheVariants.{Memory, QueueFull}
use Rattle.acc_base.specs.Configurations.{Configuration, has_range}
use Rattle.acc_base.specs.Queues.{at_seat, seat, queue_count}
use Rattle.acc_place.specs.Directives.{Directive}
use Rattle.acc_place.specs.declared.directive.PlaceEntry.{PlaceEntry}
use Rattle.acc_place.specs.declared.directive.PlaceEntry.TheVariants as noted
use Rattle.acc_place.specs.declared.directive.Placed.{Placed}
use Rattle.acc_host.specs.declared.event.Event.{Event}
use Rattle.acc_host.specs.declared.event.Event.TheVariants as event
use Rattle.acc_host.specs.declared.state.After.{After}
use Rattle.acc_host.specs.declared.state.After.TheVariants as go
use Rattle.acc_host.specs.declared.state.Reply.{Reply}
use Rattle.acc_host.specs.declared.state.Reply.TheVariants as reply
use Rattle.acc_host.specs.Hosts.{HostView, wants, after_place, after_wait, after_answer, host_after, reply_to}
use Rattle.acc_host.specs.Steps.{Want, stays, sets, refuses, places, awaits, records}
use Rattle.acc_work.specs.declared.item.ItemLabel.{ItemLabel}
use Rattle.acc_work.specs.declared.item.ItemLabel.TheVariants as to_record
use Rattle.acc_work.specs.declared.item.Shown.{Shown}
use Rattle.acc_batch.specs.declared.entry.Told.{Told}
use Rattle.acc_batch.specs.declared.entry.Told.TheVariants as told
use Rattle.acc_batch.specs.declared.entry.WorkEntry.{WorkEntry}
use Rattle.acc_batch.specs.declared.entry.WorkEntry.TheVariants as entry
use Rattle.acc_batch.specs.declared.label.Label.{Label}
use Rattle.acc_batch.specs.declared.label.OpLabel.{OpLabel}
use Rattle.acc_place.specs.Accepting.{refusal}
use Rattle.acc_place.specs.Batches.{batch_of, answer_of, walk_at}
use Rattle.acc_place.specs.Histories.{is_closed, standing}
use Rattle.acc_batch.specs.Labels.{on_queue, ops_of, batch_at}
use Rattle.acc_work.specs.Items.{shown_by}
use Rattle.acc_work.specs.Logs.{performed, items_of, value, all_done, await_allows, host_allows}
use Rattle.acc_work.specs.Works.{item_fault}
use Rattle.acc_memory.specs.Values.{values_of}
use Rattle.acc_place.specs.Standings.{Standing, Walk, walk_of}

-- The histories, the latest entry first; the number of batches that were taken, queue by queue of each device; the hosts.
pub record State : Type 0 where
  pub config : Configuration
  pub history : List PlaceEntry
  pub counts : List ℕ
  pub work : List WorkEntry
  pub taken : List ℕ
  pub hosts : List HostView

-- Nothing is accepted, performed, taken or shown yet.
abbrev pub state_at_first : Configuration → List HostView → State
state_at_first config hosts =
    record { config = config; history = []; counts = []; work = []; taken = replicate (queue_count config) 0; hosts = hosts }

abbrev pub standing_of : State → Standing
standing_of w = standing w.config w.history w.counts

-- the labels of the batches that were placed, in the order of placing
abbrev pub labels_of : State → List Label
labels_of w = (standing_of w).labels

abbrev pub is_there : State → QueueAt → Bool
is_there w at = nat_lt at.device w.config.devices && nat_lt at.queue QUEUES

abbrev pub taken_on : State → QueueAt → ℕ
taken_on w at = slice_index_or w.taken (seat at) 0

-- Each queue of each device has a count of its own, whatever the number of devices.
abbrev pub EachQueueIsCounted : Type 0
EachQueueIsCounted =
    (config : Configuration) (a b : QueueAt) → a.device < config.devices → a.queue < QUEUES → b.queue < QUEUES
    → (seat a < queue_count config) × (seat a ≡ seat b → (a.device ≡ b.device) × (a.queue ≡ b.queue))

-- the batches of these labels that were placed and not taken
abbrev pub batches_held : State → List Label → QueueAt → ℕ
batches_held w labels at = length (on_queue at labels) - taken_on w at

-- what was taken and isn't performed
abbrev pub ops_left : State → List Label → QueueAt → List OpLabel
ops_left w labels at = drop (length (performed at w.work)) (ops_of (take (taken_on w at) (on_queue at labels)))

abbrev pub is_empty : List OpLabel → Bool
is_empty [] = true
is_empty (op ∷ ops) = false

-- the batch isn't empty, and the queue holds its room
abbrev pub is_full : State → Standing → Walk → Bool
is_full w st walk = not (is_empty (batch_of st walk)) && (batches_held w st.labels (walk_at walk) == w.config.room)

abbrev pub queue_fault : Bool → Option Fault
queue_fault true = Some QueueFull
queue_fault false = None

-- the fault of a host's directive, where memory is refused or not
abbrev pub place_fault : Bool → State → ℕ → Directive → Option Fault → Option Fault
place_fault no_memory w host d (Some fault) = Some fault
place_fault no_memory w host d None =
    if no_memory then Some Memory else queue_fault (is_full w (standing_of w) (walk_of (standing_of w) host d))

abbrev pub fault_of_place : Bool → State → ℕ → Directive → Option Fault
fault_of_place no_memory w host d = place_fault no_memory w host d (refusal w.config (standing_of w) host d)

abbrev pub unless : {A : Type 0} → Option Fault → A → Result A Fault
unless None answer = Ok answer
unless (Some fault) answer = Err fault

-- what a host's directive is answered
abbrev pub place_answer : Bool → State → ℕ → Directive → Result Placed Fault
place_answer no_memory w host d =
    unless (fault_of_place no_memory w host d) (answer_of (standing_of w) d (walk_of (standing_of w) host d))

abbrev pub with_directive : State → ℕ → Directive → State
with_directive w host d = record w { history = noted.Accepted host d ∷ w.history; counts = items_of host w.work ∷ w.counts }

-- the state after that answer; where a call is refused nothing changes
abbrev pub placed_state : State → ℕ → Directive → Result Placed Fault → State
placed_state w host d (Ok placed) = with_directive w host d
placed_state w host d (Err fault) = w

abbrev pub with_item : State → ℕ → Told → State
with_item w host what = record w { work = entry.Item host what ∷ w.work }

-- what an item tells now: a print its values, a test whether each queue has performed its count
abbrev pub told_of : State → ItemLabel → Told
told_of w (to_record.Write array cell new_value) = told.Write array cell new_value
told_of w (to_record.Print range) = told.Print range (values_of (value w.config.arrays w.work) range)
told_of w (to_record.Seen device counts) = told.Seen device counts
told_of w (to_record.Test device counts) = told.Test device (all_done (labels_of w) w.work device 0 counts) counts

-- its cells are there, and what it tells as seen is performed
abbrev pub can_tell : State → ItemLabel → Bool
can_tell w (to_record.Write array cell new_value) = has_range w.config.arrays (record { array = array; lo = cell; len = 1 })
can_tell w (to_record.Print range) = has_range w.config.arrays range
can_tell w (to_record.Seen device counts) = all_done (labels_of w) w.work device 0 counts
can_tell w (to_record.Test device counts) = true

-- what a host's item is answered
abbrev pub item_answer : Bool → State → ItemLabel → Result Shown Fault
item_answer no_memory w item = unless (item_fault no_memory w.work (can_tell w item)) (shown_by (told_of w item))

abbrev pub item_state : State → ℕ → ItemLabel → Result Shown Fault → State
item_state w host item (Ok answer) = with_item w host (told_of w item)
item_state w host item (Err fault) = w

-- what a host's wait is answered: false while a queue has not performed its count
abbrev pub wait_answer : Bool → State → ℕ → List ℕ → Result Bool Fault
wait_answer no_memory w device counts =
    if all_done (labels_of w) w.work device 0 counts then unless (item_fault no_memory w.work true) true else Ok false

abbrev pub waited_state : State → ℕ → ℕ → List ℕ → Result Bool Fault → State
waited_state w host device counts (Ok true) = with_item w host (told.Seen device counts)
waited_state w host device counts (Ok false) = w
waited_state w host device counts (Err fault) = w

pub record Outcome : Type 0 where
  pub reply : Reply
  pub state : State

abbrev pub idle : State → Outcome
idle w = record { reply = reply.Idle; state = w }

abbrev pub did : State → Outcome
did w = record { reply = reply.Did; state = w }

-- A host goes on.
abbrev pub host_outcome : State → ℕ → HostView → Result After Fault → Outcome
host_outcome w h host goes = record { reply = reply_to goes; state = record w { hosts = slice_set w.hosts h (host_after goes host) } }

-- a host's step, by what it wants
abbrev pub host_step : Bool → State → ℕ → HostView → Want → Outcome
host_step no_memory w h host stays = host_outcome w h host (Ok go.Idle)
host_step no_memory w h host (sets ids) = host_outcome w h host (Ok (go.Set ids))
host_step no_memory w h host (refuses fault) = host_outcome w h host (Err fault)
host_step no_memory w h host (places d) =
    host_outcome (placed_state w h d (place_answer no_memory w h d)) h host (after_place d (place_answer no_memory w h d))
host_step no_memory w h host (awaits device counts) =
    host_outcome (waited_state w h device counts (wait_answer no_memory w device counts)) h host
    (after_wait (wait_answer no_memory w device counts))
host_step no_memory w h host (records item) =
    host_outcome (item_state w h item (item_answer no_memory w item)) h host (after_answer (item_answer no_memory w item))

abbrev pub named_step : Bool → State → ℕ → Option HostView → Outcome
named_step no_memory w h None = idle w
named_step no_memory w h (Some host) = host_step no_memory w h host (wants w.config.devices host)

abbrev pub take_step : State → List Label → QueueAt → List OpLabel → Outcome
take_step w labels at [] =
    if nat_lt 0 (batches_held w labels at) then did (record w { taken = slice_set w.taken (seat at) (taken_on w at + 1) }) else idle w
take_step w labels at (op ∷ ops) = idle w

abbrev pub with_op : State → QueueAt → OpLabel → State
with_op w at op = record w { work = entry.Op at op ∷ w.work }

-- a queue's next operation can be performed where what it awaits is performed, and its host has the items before its batch
abbrev pub can_perform : List Label → List WorkEntry → QueueAt → OpLabel → Bool
can_perform labels work at op =
    await_allows labels work at.device op && host_allows (batch_at (on_queue at labels) (length (performed at work))) work

abbrev pub perform_step : State → List Label → QueueAt → List OpLabel → Outcome
perform_step w labels at [] = idle w
perform_step w labels at (op ∷ ops) = if can_perform labels w.work at op then did (with_op w at op) else idle w

-- a queue can be closed, if it isn't yet, and holds fewer batches than its room
abbrev pub can_close : State → Standing → QueueAt → Bool
can_close w st at = not (is_closed st at) && nat_lt (batches_held w st.labels at) w.config.room

-- of the first n queues, those that can be closed are closed in turn; the latest entry first
abbrev pub closes : State → Standing → ℕ → List PlaceEntry
closes w st zero = []
closes w st (suc n) = if can_close w st (at_seat n) then noted.Closed (at_seat n) ∷ closes w st n else closes w st n

-- how many of them stay open, as they hold their room
abbrev pub stay_open : State → Standing → ℕ → ℕ
stay_open w st zero = 0
stay_open w st (suc n) = if is_closed st (at_seat n) || can_close w st (at_seat n) then stay_open w st n else stay_open w st n + 1

-- closing begins, if it hasn't
abbrev pub with_closing : Standing → List PlaceEntry → List PlaceEntry
with_closing st history = if st.closing then history else noted.Closing ∷ history

-- The owner closes.
abbrev pub close_step : State → Standing → Outcome
close_step w st =
    record {
      reply = reply.Remaining (stay_open w st (queue_count w.config));
      state = record w { history = closes w st (queue_count w.config) ++ with_closing st w.history };
    }

abbrev pub queue_step : Bool → State → Outcome → Outcome
queue_step true w o = o
queue_step false w o = idle w

-- One step, where memory is refused or not.
abbrev pub step : Bool → State → Event → Outcome
step no_memory w (event.Host h) = named_step no_memory w h (slice_get w.hosts h)
step no_memory w (event.Take at) = queue_step (is_there w at) w (take_step w (labels_of w) at (ops_left w (labels_of w) at))
step no_memory w (event.Perform at) = queue_step (is_there w at) w (perform_step w (labels_of w) at (ops_left w (labels_of w) at))
step no_memory w event.Close = close_step w (standing_of w)

-- The machine may answer so.
abbrev pub Step : State → Event → Reply → State → Type 0
Step old e answer new = (no_memory : Bool) × (step no_memory old e ≡ record { reply = answer; state = new })

-- The machine may give these replies to these events, one step after another.
abbrev pub Runs : State → List Event → List Reply → State → Type 0
Runs old [] [] new = new ≡ old
Runs old (e ∷ events) (r ∷ replies) new = (mid : State) × Step old e r mid × Runs mid events replies new
Runs old [] (r ∷ replies) new = ⊥
Runs old (e ∷ events) [] new = ⊥
