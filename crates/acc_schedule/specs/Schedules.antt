-- The events of a schedule: line by line, each a few words.
use Rattle.std.specs.Prelude.{ℕ, zero, suc, ◌+◌, Bool, true, false, ◌&&◌, ◌||◌, not, ◌==◌, nat_lt, List, [], ◌∷◌, ◌++◌, length, map, filter, Option, Some, None, option_map, Result, Ok, Err, codes, bytes_eq, if◌then◌else◌}
use Rattle.std.specs.List.{flat_map, list_all, range_with_len, slice_split}
use Rattle.acc_base.specs.declared.ids.QueueAt.{QueueAt}
use Rattle.acc_base.specs.declared.ids.TheConstants.{VALUES}
use Rattle.acc_base.specs.Queues.{every_queue, noval, queue_of_value, sync}
use Rattle.acc_host.specs.declared.event.Event.{Event}
use Rattle.acc_host.specs.declared.event.Event.TheVariants.{Host, Take, Perform, Close}
use Rattle.acc_token.specs.declared.read_fault.ReadFault.{ReadFault}
use Rattle.acc_token.specs.declared.read_fault.ReadKind.{ReadKind}
use Rattle.acc_token.specs.declared.read_fault.ReadKind.TheVariants.{Text, Name, Limit, Form}
use Rattle.acc_token.specs.declared.text.TheConstants.{MAX_TEXT}
use Rattle.acc_schedule.specs.declared.turn.ScheduleLine.{ScheduleLine}
use Rattle.acc_schedule.specs.declared.turn.Turn.{Turn}
use Rattle.acc_schedule.specs.declared.turn.Turn.TheVariants.{One, Round}
use Rattle.acc_schedule.specs.declared.schedule.TheConstants.{MAX_EVENTS}
use Rattle.acc_schedule.specs.declared.turn.TheConstants.{MAX_TIMES}
use Rattle.acc_token.specs.Faults.{fails, ◌>>=◌}
use Rattle.acc_token.specs.Texts.{within}
use Rattle.acc_token.specs.Tokens.{is_digit, value_behind}

-- ## Lines and words

-- Each line ends at a line feed or with the text. Behind a last line feed an empty line is left, which is skipped.
abbrev pub lines : List ℕ → List (List ℕ)
lines text = slice_split (λ b. b == 10) text

abbrev pub is_space : ℕ → Bool
is_space b = b == 32 || b == 9

abbrev pub is_filled : List ℕ → Bool
is_filled [] = false
is_filled (b ∷ bs) = true

-- the words of a line, between spaces and tabs
abbrev pub words : List ℕ → List (List ℕ)
words line = filter is_filled (slice_split is_space line)

-- the first word, if there is one, and the others
abbrev pub with_first : List ℕ → List (List ℕ) → List (List ℕ)
with_first [] others = []
with_first (b ∷ bs) others = (b ∷ bs) ∷ others

-- empty lines, and lines that begin with `#`
abbrev pub is_skipped : List ℕ → Bool
is_skipped [] = true
is_skipped (b ∷ bs) = b == 35

-- a byte that can stand in a line: a tab, and those from the space to `~`
abbrev pub is_line_byte : ℕ → Bool
is_line_byte b = b == 9 || nat_lt 31 b && nat_lt b 127

-- decimal digits without a leading zero
abbrev pub is_number : List ℕ → Bool
is_number [] = false
is_number (b ∷ bs) = list_all is_digit (b ∷ bs) && (not (b == 48) || length bs == 0)

-- ## What words name

-- the number that a word says, where so many are there
abbrev pub number_below : ℕ → List ℕ → Option ℕ
number_below count word = if nat_lt (value_behind 0 word) count then Some (value_behind 0 word) else None

-- the event of a host that is there
abbrev pub host_named : ℕ → List ℕ → Option Event
host_named hosts k = option_map (λ h. Host h) (number_below hosts k)

-- the queue of an async value: one for each below the number of queues that such values share
abbrev pub async_queue : List ℕ → Option ℕ
async_queue word = if is_number word then option_map queue_of_value (number_below VALUES word) else None

-- the queue that a word stands for, by its number
abbrev pub queue_by_word : List ℕ → Option ℕ
queue_by_word q =
    if bytes_eq q (codes "sync") then Some sync
    else (if bytes_eq q (codes "noval") then Some noval
    else async_queue q)

abbrev pub queue_on : Option ℕ → Option ℕ → Option QueueAt
queue_on (Some device) (Some queue) = Some (record { device = device; queue = queue })
queue_on (Some device) None = None
queue_on None queue = None

-- a queue of a device that is there
abbrev pub queue_named : ℕ → List ℕ → List ℕ → Option QueueAt
queue_named devices d q = queue_on (number_below devices d) (queue_by_word q)

-- ## Turns

abbrev pub repeated : ℕ → List Event → List Event
repeated zero events = []
repeated (suc n) events = events ++ repeated n events

abbrev pub repeats : List Event → Result ℕ ReadKind → Result (List Event) ReadKind
repeats events (Ok n) = Ok (repeated n events)
repeats events (Err kind) = Err kind

-- the queue takes a batch and performs one operation
abbrev pub queue_turn : QueueAt → List Event
queue_turn at = Take at ∷ Perform at ∷ []

abbrev pub device_turn : ℕ → List Event
device_turn d = flat_map (λ q. queue_turn (record { device = d; queue = q })) every_queue

-- Each host goes on, in order; then each queue, by device and in queue order, has its turn.
abbrev pub turn_of : ℕ → ℕ → List Event
turn_of hosts devices = map Host (range_with_len 0 hosts) ++ flat_map device_turn (range_with_len 0 devices)

-- a turn of one event, if its line names what is there
abbrev pub one_turn : Option Event → Option (List Event)
one_turn None = None
one_turn (Some event) = Some (event ∷ [])

-- ## What a line asks for

-- how often, as a number says it: at least once
unfoldable pub times_of : List ℕ → Result ℕ ReadKind
times_of n =
    if value_behind 0 n == 0 || nat_lt MAX_TIMES (value_behind 0 n) then Err Limit
    else Ok (value_behind 0 n)

-- what a line names has to be there, before its N counts
abbrev pub named_turn : Option (List Event) → List ℕ → Result (List Event) ReadKind
named_turn None n = Err Name
named_turn (Some turn) n = repeats turn (times_of n)

-- A line asks for a turn N times. Its words have to be so many, and numbers where numbers stand, before all else.
abbrev pub asked_turn : Bool → Option (List Event) → Option (List ℕ) → Result (List Event) ReadKind
asked_turn formed turn None = Err Form
asked_turn formed turn (Some n) = if formed && is_number n then named_turn turn n else Err Form

-- N, where it is the last word or is missing
abbrev pub times_word : List (List ℕ) → Option (List ℕ)
times_word [] = Some (codes "1")
times_word (n ∷ []) = Some n
times_word (n ∷ m ∷ others) = None

-- `host K [N]`: the host goes on
unfoldable pub host_events : ℕ → List (List ℕ) → Result (List Event) ReadKind
host_events hosts [] = Err Form
host_events hosts (k ∷ others) = asked_turn (is_number k) (one_turn (host_named hosts k)) (times_word others)

-- `take D Q [N]` and `do D Q [N]`: the queue's event
unfoldable pub queue_events : ℕ → (QueueAt → Event) → List (List ℕ) → Result (List Event) ReadKind
queue_events devices event [] = Err Form
queue_events devices event (d ∷ []) = Err Form
queue_events devices event (d ∷ q ∷ others) =
    asked_turn (is_number d) (one_turn (option_map event (queue_named devices d q))) (times_word others)

-- `close`
unfoldable pub close_events : List (List ℕ) → Result (List Event) ReadKind
close_events [] = Ok (Close ∷ [])
close_events (word ∷ others) = Err Form

-- `round N`: a turn of all hosts and queues
unfoldable pub round_events : ℕ → ℕ → List (List ℕ) → Result (List Event) ReadKind
round_events hosts devices [] = Err Form
round_events hosts devices (n ∷ []) = asked_turn true (Some (turn_of hosts devices)) (Some n)
round_events hosts devices (n ∷ m ∷ others) = Err Form

-- what the words of a line stand for, by the first of them
abbrev pub events_by : ℕ → ℕ → List ℕ → List (List ℕ) → Result (List Event) ReadKind
events_by hosts devices first others =
    if bytes_eq first (codes "host") then host_events hosts others
    else (if bytes_eq first (codes "take") then queue_events devices (λ at. Take at) others
    else (if bytes_eq first (codes "do") then queue_events devices (λ at. Perform at) others
    else (if bytes_eq first (codes "close") then close_events others
    else (if bytes_eq first (codes "round") then round_events hosts devices others
    else Err Form))))

unfoldable pub events_of : ℕ → ℕ → List (List ℕ) → Result (List Event) ReadKind
events_of hosts devices [] = Err Form
events_of hosts devices (first ∷ others) = events_by hosts devices first others

unfoldable pub line_events : ℕ → ℕ → List ℕ → Result (List Event) ReadKind
line_events hosts devices line =
    if list_all is_line_byte line then events_of hosts devices (words line) else Err Text

-- ## The whole schedule

-- the events behind a line, whose number is given with the events before it
abbrev pub joined_events : ℕ → List Event → Result (List Event) ReadKind → Result (List Event) ReadFault
joined_events number events (Ok more) =
    if nat_lt MAX_EVENTS (length events + length more) then fails number Limit else Ok (events ++ more)
joined_events number events (Err kind) = fails number kind

unfoldable pub events_behind : ℕ → ℕ → ℕ → List Event → List ℕ → Result (List Event) ReadFault
events_behind hosts devices number events line =
    if is_skipped line then Ok events else joined_events number events (line_events hosts devices line)

abbrev pub events_from : ℕ → ℕ → ℕ → List Event → List (List ℕ) → Result (List Event) ReadFault
events_from hosts devices number events [] = Ok events
events_from hosts devices number events (line ∷ others) =
    events_behind hosts devices number events line >>= λ more. events_from hosts devices (number + 1) more others

unfoldable pub schedule_of : ℕ → ℕ → List ℕ → Result (List Event) ReadFault
schedule_of hosts devices text = within MAX_TEXT (λ (text : List ℕ). events_from hosts devices 1 [] (lines text)) text

-- ## A schedule as it is kept: a turn for each line, and how often it comes

abbrev pub turn_events : List Event → Turn → List Event
turn_events round (One event) = event ∷ []
turn_events round Round = round

abbrev pub kept_events : List Event → ScheduleLine → List Event
kept_events round line = repeated line.times (turn_events round line.turn)

abbrev pub all_events : List Event → List ScheduleLine → List Event
all_events round kept = flat_map (kept_events round) kept

-- what was read, as the definitions see it
abbrev pub turn_read : List Event → Option Turn → Option (List Event)
turn_read round None = None
turn_read round (Some turn) = Some (turn_events round turn)

abbrev pub line_read : List Event → Result ScheduleLine ReadKind → Result (List Event) ReadKind
line_read round (Ok line) = Ok (kept_events round line)
line_read round (Err kind) = Err kind
