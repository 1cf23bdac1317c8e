-- How events are written as a schedule: a line for each, or for so many of one in a row.
use Rattle.std.specs.Prelude.{◌≡◌, ◌≤◌, ◌<◌, ◌+◌, ◌^◌, ◌==◌, nat_lt, ℕ, Bool, false, ◌&&◌, List, [], ◌∷◌, ◌++◌, length, All, Ok, codes, decimal, if◌then◌else◌}
use Rattle.acc_base.specs.declared.ids.QueueAt.{QueueAt}
use Rattle.acc_base.specs.declared.ids.TheConstants.{QUEUES}
use Rattle.acc_base.specs.Queues.{same_queue}
use Rattle.acc_core.specs.Machine.{State}
use Rattle.acc_explore.specs.Runs.{open_events}
use Rattle.acc_host.specs.declared.event.Event.{Event}
use Rattle.acc_host.specs.declared.event.Event.TheVariants.{Host, Take, Perform, Close}
use Rattle.acc_report.specs.Lines.{queue_name}
use Rattle.acc_schedule.specs.declared.schedule.TheConstants.{MAX_EVENTS}
use Rattle.acc_schedule.specs.declared.turn.TheConstants.{MAX_TIMES}
use Rattle.acc_schedule.specs.Schedules.{schedule_of}
use Rattle.acc_token.specs.declared.text.TheConstants.{MAX_TEXT}

-- ## Lines

-- a queue, by its device and its name
unfoldable pub queue_words : QueueAt → List ℕ
queue_words at = decimal at.device ++ (codes " " ++ queue_name at.queue)

-- what a line says of an event: `host 3`, `take 0 sync`, `do 1 4`, `close`
unfoldable pub event_words : Event → List ℕ
event_words (Host h) = codes "host " ++ decimal h
event_words (Take at) = codes "take " ++ queue_words at
event_words (Perform at) = codes "do " ++ queue_words at
event_words Close = codes "close"

-- how often, unless it is once
unfoldable pub times_text : ℕ → List ℕ
times_text times = if times == 1 then [] else codes " " ++ decimal times

-- the line of an event that comes so many times in a row
unfoldable pub event_line : Event → ℕ → List ℕ
event_line e times = event_words e ++ (times_text times ++ codes "\n")

-- ## Schedules

-- The same host or queue goes on in the same way. Each close has a line of its own.
abbrev pub goes_on_alike : Event → Event → Bool
goes_on_alike (Host h) (Host k) = h == k
goes_on_alike (Take at) (Take to) = same_queue at to
goes_on_alike (Perform at) (Perform to) = same_queue at to
goes_on_alike e x = false

-- whether an event joins the line of one that has come so many times
abbrev pub joins : Event → ℕ → Event → Bool
joins e times x = goes_on_alike e x && nat_lt times MAX_TIMES

-- the lines of an event that has come so many times, and of those behind it
abbrev pub lines_from : Event → ℕ → List Event → List ℕ
lines_from e times [] = event_line e times
lines_from e times (x ∷ events) =
    if joins e times x then lines_from e (times + 1) events
    else event_line e times ++ lines_from x 1 events

abbrev pub schedule_text : List Event → List ℕ
schedule_text [] = []
schedule_text (e ∷ events) = lines_from e 1 events

-- a schedule, and behind it and an empty line the events with which it goes on
abbrev pub going_on : List ℕ → List Event → List ℕ
going_on [] events = schedule_text events
going_on (b ∷ bs) events = (b ∷ bs) ++ (codes "\n" ++ schedule_text events)

-- ## They are read again

-- The host that an event names is there, or the queue's device and the queue.
abbrev pub IsNamed : ℕ → ℕ → Event → Type 0
IsNamed hosts devices (Host h) = h < hosts
IsNamed hosts devices (Take at) = (at.device < devices) × (at.queue < QUEUES)
IsNamed hosts devices (Perform at) = (at.device < devices) × (at.queue < QUEUES)
IsNamed hosts devices Close = Unit {0}

-- Behind a schedule, events are read as they are written, where neither the text nor the events are too many.
abbrev pub SpelledIsRead : Type 0
SpelledIsRead =
    (hosts devices : ℕ) (text : List ℕ) (before events : List Event) → hosts < 2 ^ 8 → devices < 2 ^ 8
    → schedule_of hosts devices text ≡ Ok before → All (IsNamed hosts devices) events
    → length (going_on text events) ≤ MAX_TEXT → length (before ++ events) ≤ MAX_EVENTS
    → schedule_of hosts devices (going_on text events) ≡ Ok (before ++ events)

-- In a state, the events that can do something name hosts and queues that are there.
abbrev pub EventsAreNamed : Type 0
EventsAreNamed = (closing : Bool) (w : State) → All (IsNamed (length w.hosts) w.config.devices) (open_events closing w)
