-- The line that tells what an event did, in the words of the report and of the language.
use Rattle.std.specs.Prelude.{ℕ, ◌+◌, ◌-◌, Bool, true, false, ◌&&◌, not, nat_lt, ◌==◌, List, [], ◌∷◌, ◌++◌, length, map, replicate, take, drop, bytes_eq, slice_get, slice_index_or, Option, Some, None, ℤ, codes, decimal, if◌then◌else◌}
use Rattle.std.specs.Fmt.{signed_decimal}
use Rattle.std.specs.List.{flat_map, prefix_len}
use Rattle.acc_base.specs.Configurations.{has_range}
use Rattle.acc_base.specs.declared.fault.Fault.{Fault}
use Rattle.acc_base.specs.declared.fault.Fault.TheVariants as fault
use Rattle.acc_base.specs.declared.ids.QueueAt.{QueueAt}
use Rattle.acc_base.specs.declared.range.Range.{Range}
use Rattle.acc_base.specs.Faults.{fault_number, fault_name}
use Rattle.acc_kernel.specs.Jobs.{Use}
use Rattle.acc_present.specs.Presences.{Presence, holder, is_partly_present, presences, used_cells}
use Rattle.acc_batch.specs.declared.label.Label.{Label}
use Rattle.acc_batch.specs.declared.label.OpLabel.{OpLabel}
use Rattle.acc_batch.specs.declared.label.OpLabel.TheVariants as op
use Rattle.acc_batch.specs.Labels.{on_queue}
use Rattle.acc_place.specs.Answers.{answers_of}
use Rattle.acc_place.specs.Plans.{nth_batch}
use Rattle.acc_place.specs.Directives.{Directive}
use Rattle.acc_place.specs.Regions.{ends_region}
use Rattle.acc_place.specs.Targets.{or_sync, target_queue}
use Rattle.acc_place.specs.declared.directive.DataItem.{DataItem}
use Rattle.acc_place.specs.declared.directive.PlaceEntry.{PlaceEntry}
use Rattle.acc_place.specs.declared.directive.PlaceEntry.TheVariants as entry
use Rattle.acc_place.specs.declared.directive.Placed.{Placed}
use Rattle.acc_memory.specs.Values.{Host_cell}
use Rattle.acc_work.specs.Logs.{value}
use Rattle.acc_host.specs.declared.event.Event.{Event}
use Rattle.acc_host.specs.declared.event.Event.TheVariants as event
use Rattle.acc_host.specs.declared.program.Act.{Act}
use Rattle.acc_host.specs.declared.program.Act.TheVariants as act
use Rattle.acc_host.specs.declared.program.Statement.{Statement}
use Rattle.acc_host.specs.declared.state.Ids.{Ids}
use Rattle.acc_host.specs.Hosts.{HostView}
use Rattle.acc_core.specs.Machine.{State, labels_of, standing_of}
use Rattle.acc_core.specs.Progress.{next_by}
use Rattle.acc_report.specs.Lines.{each_below, queue_name}
use Rattle.acc_report.specs.Totals.{has_plain_ops}
use Rattle.acc_script.specs.Arrays.{texts}
use Rattle.acc_token.specs.Texts.{shown_byte}
use Rattle.acc_token.specs.Tokens.{front, is_blank}
use Rattle.acc_steps.specs.declared.line.Telling.{Telling}
use Rattle.acc_steps.specs.declared.deed.Deed.{Deed}
use Rattle.acc_steps.specs.declared.deed.Deed.TheVariants as deed
use Rattle.acc_steps.specs.declared.source.Part.{Part}
use Rattle.acc_steps.specs.declared.source.Part.TheVariants as part
use Rattle.acc_steps.specs.Deeds.{statement_of}

-- what steps are told with: the names of the arrays, the lines of the script, and whether events that did nothing are told too
pub record Words : Type 0 where
  pub names : List (List ℕ)
  pub source : List (List ℕ)
  pub idle : Bool

abbrev pub words_told : Telling → Words
words_told t = record { names = texts t.names.now; source = texts t.source.now; idle = t.idle }

-- ## Who, and when

abbrev pub spaces : ℕ → List ℕ
spaces n = replicate n 32

-- queue D Q
unfoldable pub queue_at_text : QueueAt → List ℕ
queue_at_text at = codes "queue " ++ (decimal at.device ++ (codes " " ++ queue_name at.queue))

-- host H, queue D Q, or the owner
unfoldable pub who_text : Event → List ℕ
who_text (event.Host h) = codes "host " ++ decimal h
who_text (event.Take at) = queue_at_text at
who_text (event.Perform at) = queue_at_text at
who_text event.Close = codes "owner"

-- N  line L  who: the number of the event among all, and the line of the schedule, in columns
unfoldable pub head_text : ℕ → ℕ → Event → List ℕ
head_text number line e =
    spaces (5 - length (decimal number)) ++ (decimal number ++ (codes "  line " ++ (decimal line
    ++ (spaces (4 - length (decimal line)) ++ (who_text e ++ spaces (15 - length (who_text e)))))))

-- ## Ranges, operations, batches

-- NAME[LO:LEN]
unfoldable pub range_text : List (List ℕ) → Range → List ℕ
range_text names r =
    slice_index_or names r.array [] ++ (codes "[" ++ (decimal r.lo ++ (codes ":" ++ (decimal r.len ++ codes "]"))))

abbrev pub counters_text : Option Presence → List ℕ
counters_text None = codes " absent"
counters_text (Some p) = codes " s " ++ (decimal p.s ++ (codes " d " ++ decimal p.d))

-- what holds a range on a device, if something does
abbrev pub held_on : State → ℕ → Range → Option Presence
held_on w device r = if nat_lt device w.config.devices && nat_lt 0 r.len then holder (presences ((standing_of w).marks device)) r else None

-- a range of a directive, and the counters of what holds it
unfoldable pub item_text : List (List ℕ) → State → ℕ → DataItem → List ℕ
item_text names w device i = codes " | " ++ (range_text names i.range ++ counters_text (held_on w device i.range))

abbrev pub op_word : OpLabel → List ℕ
op_word (op.Make range block) = codes "make"
op_word (op.CopyIn range block) = codes "copy in"
op_word (op.CopyOut range block) = codes "copy out"
op_word (op.Release block) = codes "release"
op_word (op.Run kernel uses) = codes "loop"
op_word (op.Await queue number) = codes "await"
op_word op.Close = codes "close"

abbrev pub op_words : List OpLabel → List ℕ
op_words [] = []
op_words (o ∷ ops) = op_word o ++ flat_map (λ p. codes ", " ++ op_word p) ops

-- the operations of a batch, if it is there
abbrev pub ops_text : Option Label → List ℕ
ops_text None = []
ops_text (Some l) = codes ": " ++ op_words l.ops

-- a batch by its number and its queue, and its operations
unfoldable pub batch_text : State → QueueAt → ℕ → List ℕ
batch_text w at number =
    codes " | batch " ++ (decimal number ++ (codes " of " ++ (queue_at_text at ++ ops_text (nth_batch (on_queue at (labels_of w)) number))))

abbrev pub batch_by : State → Option (QueueAt × ℕ) → List ℕ
batch_by w None = []
batch_by w (Some (at, number)) = batch_text w at number

-- ## What an event did

abbrev pub batch_in : Option Placed → Option (QueueAt × ℕ)
batch_in None = None
batch_in (Some placed) = placed.batch

abbrev pub entry_text : List (List ℕ) → State → Option PlaceEntry → List ℕ
entry_text names w None = []
entry_text names w (Some (entry.Accepted host d)) = flat_map (item_text names w d.device) d.items
entry_text names w (Some entry.Closing) = []
entry_text names w (Some (entry.Closed at)) = []

-- the directive that was accepted last: what holds each of its ranges now, and its batch
unfoldable pub accepted_text : List (List ℕ) → State → List ℕ
accepted_text names w =
    entry_text names w (slice_get w.history 0) ++ batch_by w (batch_in (slice_get (answers_of w.config w.history w.counts) 0))

-- a cell of a host array, if it is there
unfoldable pub cell_text : State → ℕ → ℕ → List ℕ
cell_text w array cell =
    if has_range w.config.arrays (record { array = array; lo = cell; len = 1 }) then codes " " ++ signed_decimal (value w.config.arrays w.work (Host_cell array cell))
    else []

-- a block, and a range of it
unfoldable pub use_text : List (List ℕ) → Use → List ℕ
use_text names u = codes " " ++ (range_text names u.1 ++ (codes " in block " ++ decimal u.0))

-- what an operation does
unfoldable pub op_text : List (List ℕ) → ℕ → OpLabel → List ℕ
op_text names device (op.Make range block) = codes "makes block " ++ (decimal block ++ (codes " for " ++ range_text names range))
op_text names device (op.CopyIn range block) = codes "copies " ++ (range_text names range ++ (codes " into block " ++ decimal block))
op_text names device (op.CopyOut range block) = codes "copies " ++ (range_text names range ++ (codes " out of block " ++ decimal block))
op_text names device (op.Release block) = codes "releases block " ++ decimal block
op_text names device (op.Run kernel uses) = codes "runs its loop, with" ++ flat_map (use_text names) uses
op_text names device (op.Await queue number) =
    codes "has awaited batch " ++ (decimal number ++ (codes " of " ++ queue_at_text (record { device = device; queue = queue })))
op_text names device op.Close = codes "closes"

-- the host of a batch, or that it is the close of its queue
abbrev pub batch_host_text : Option Label → List ℕ
batch_host_text None = []
batch_host_text (Some l) = if has_plain_ops l then codes " of host " ++ decimal l.host else codes ", its close"

abbrev pub device_in : Event → ℕ
device_in (event.Host h) = 0
device_in (event.Take at) = at.device
device_in (event.Perform at) = at.device
device_in event.Close = 0

abbrev pub batch_label : State → Event → ℕ → Option Label
batch_label w (event.Host h) number = None
batch_label w (event.Take at) number = nth_batch (on_queue at (labels_of w)) number
batch_label w (event.Perform at) number = nth_batch (on_queue at (labels_of w)) number
batch_label w event.Close number = None

-- what keeps a queue from performing its next operation
abbrev pub waits_text : ℕ → Option OpLabel → List ℕ
waits_text device (Some (op.Await queue number)) =
    codes "waits for batch " ++ (decimal number ++ (codes " of " ++ queue_at_text (record { device = device; queue = queue })))
waits_text device other = codes "performs nothing"

-- an event that did nothing
unfoldable pub nothing_text : State → Event → List ℕ
nothing_text w (event.Host h) = codes " | does nothing"
nothing_text w (event.Take at) = codes "takes nothing"
nothing_text w (event.Perform at) = waits_text at.device (next_by w at)
nothing_text w event.Close = []

-- what a question was answered, as a print
abbrev pub answer_text : Bool → List ℕ
answer_text true = codes " | prints 1"
answer_text false = codes " | prints 0"

-- ## Why a statement was refused

-- what is present on a device, if that is there
abbrev pub present_on : State → ℕ → List Presence
present_on w device = if nat_lt device w.config.devices then presences ((standing_of w).marks device) else []

unfoldable pub named_text : List (List ℕ) → Range → List ℕ
named_text names r = codes " | " ++ range_text names r

-- how a range stands on a device: what holds it has these counters, or it is absent, or partly present
unfoldable pub standing_text : List (List ℕ) → State → ℕ → Range → List ℕ
standing_text names w device r =
    named_text names r ++ (if is_partly_present (present_on w device) r then codes " partly present" else counters_text (held_on w device r))

-- how many cells of a device are in use, and how many it has
unfoldable pub cells_text : State → ℕ → List ℕ
cells_text w device =
    codes " | " ++ (decimal (used_cells (present_on w device)) ++ (codes " of " ++ (decimal w.config.capacity ++ codes " cells in use")))

-- a queue that holds as many batches as it has room for
unfoldable pub room_text : State → QueueAt → List ℕ
room_text w at = codes " | " ++ (queue_at_text at ++ (codes " holds its room of " ++ (decimal w.config.room ++ codes " batches")))

-- the limit that a directive on this queue has met
abbrev pub limit_by : State → QueueAt → Fault → List ℕ
limit_by w at fault.DeviceFull = cells_text w at.device
limit_by w at fault.QueueFull = room_text w at
limit_by w at other = []

-- a directive of a host with these ids, on the queue that its async clause names; the end of a data construct acts where that was entered
unfoldable pub limit_text : State → Ids → Fault → Directive → List ℕ
limit_text w ids f d =
    if ends_region d.kind then [] else limit_by w (record { device = ids.device; queue = or_sync (target_queue ids.default d.target) }) f

-- of a directive its own ranges, and the limit; of a write or a print its range
abbrev pub act_reason : List (List ℕ) → State → Ids → Fault → Act → List ℕ
act_reason names w ids f (act.Place d) = flat_map (λ i. standing_text names w ids.device i.range) d.items ++ limit_text w ids f d
act_reason names w ids f (act.Write array cell value) = named_text names (record { array = array; lo = cell; len = 1 })
act_reason names w ids f (act.Print r) = named_text names r
act_reason names w ids f (act.SetDevice n) = []
act_reason names w ids f (act.SetAsync v) = []
act_reason names w ids f act.ShowDevice = []
act_reason names w ids f act.ShowDevices = []

abbrev pub reason_of : List (List ℕ) → State → Fault → Ids → Option Statement → List ℕ
reason_of names w f ids None = []
reason_of names w f ids (Some s) = act_reason names w ids f s.act

-- a host that was refused stands at its statement, and its ids are those that this was refused with
abbrev pub reason_by : List (List ℕ) → State → Fault → Option HostView → List ℕ
reason_by names w f None = []
reason_by names w f (Some host) = reason_of names w f host.ids (statement_of host)

abbrev pub host_in : State → Event → Option HostView
host_in w (event.Host h) = slice_get w.hosts h
host_in w (event.Take at) = None
host_in w (event.Perform at) = None
host_in w event.Close = None

-- the fault, and where it comes from
unfoldable pub refused_text : List (List ℕ) → State → Event → Fault → List ℕ
refused_text names w e f = codes " | refused F" ++ (decimal (fault_number f) ++ (codes " " ++ (fault_name f ++ reason_by names w f (host_in w e))))

-- ## What an event did, in a state that it led to

unfoldable pub deed_text : List (List ℕ) → State → Event → Deed → List ℕ
deed_text names w e deed.Nothing = nothing_text w e
deed_text names w e deed.Accepted = accepted_text names w
deed_text names w e deed.Saw = codes " | all that it waits for is performed"
deed_text names w e deed.Wrote = []
deed_text names w e (deed.Printed r) = codes " | prints" ++ each_below r.len (λ i. cell_text w r.array (r.lo + i))
deed_text names w e (deed.Tested answer) = answer_text answer
deed_text names w e deed.Set = []
deed_text names w e (deed.Refused fault) = refused_text names w e fault
deed_text names w e (deed.Took number) = codes "takes batch " ++ (decimal number ++ batch_host_text (batch_label w e number))
deed_text names w e (deed.Performed number o) = codes "batch " ++ (decimal number ++ (codes ": " ++ op_text names (device_in e) o))
deed_text names w e (deed.Closed left) = codes "closes; " ++ (decimal left ++ codes " queues hold their room and stay open")

-- ## The whole line

-- what a byte, before the next one, leaves a line in: code, behind the `/` or in the rest of a comment `/* .. */`, or behind the last `*` of one
abbrev pub part_after : Part → ℕ → ℕ → Part
part_after part.Code b next = if b == 47 && next == 42 then part.Opened else part.Code
part_after part.Opened b next = part.Comment
part_after part.Comment b next = if b == 42 && next == 47 then part.Closing else part.Comment
part_after part.Closing b next = part.Code

-- a `//` in code
abbrev pub ends_code : Part → ℕ → ℕ → Bool
ends_code part.Code b next = b == 47 && next == 47
ends_code part.Opened b next = false
ends_code part.Comment b next = false
ends_code part.Closing b next = false

-- how many bytes stand before a comment that goes to the end of the line, where what stands before them leaves it in this
unfoldable pub code_len : Part → List ℕ → ℕ
code_len part [] = 0
code_len part (b ∷ bs) = if ends_code part b (front bs) then 0 else code_len (part_after part b (front bs)) bs + 1

-- how many bytes stand up to the last that isn't a blank
unfoldable pub filled_len : List ℕ → ℕ
filled_len [] = 0
filled_len (b ∷ bs) = if is_blank b && filled_len bs == 0 then 0 else filled_len bs + 1

-- a line without blanks at its ends and without a comment at its end
abbrev pub unindented : List ℕ → List ℕ
unindented line = drop (prefix_len is_blank line) line

abbrev pub filled : List ℕ → List ℕ
filled line = take (filled_len line) line

abbrev pub code_in : List ℕ → List ℕ
code_in line = filled (take (code_len part.Code line) line)

-- what a directive says behind `#pragma acc`
abbrev pub behind_pragma : List ℕ → List ℕ
behind_pragma line = if bytes_eq (take 12 line) (codes "#pragma acc ") then drop 12 line else line

-- what is shown of a line
abbrev pub shown_line : List ℕ → List ℕ
shown_line line = map shown_byte (behind_pragma (code_in (unindented line)))

-- line L: the statement's line
unfoldable pub statement_text : List (List ℕ) → ℕ → List ℕ
statement_text source line =
    if line == 0 then []
    else codes "line " ++ (decimal line ++ (codes ": " ++ shown_line (slice_index_or source (line - 1) [])))

abbrev pub did_nothing : Deed → Bool
did_nothing deed.Nothing = true
did_nothing deed.Accepted = false
did_nothing deed.Saw = false
did_nothing deed.Wrote = false
did_nothing (deed.Printed r) = false
did_nothing (deed.Tested answer) = false
did_nothing deed.Set = false
did_nothing (deed.Refused fault) = false
did_nothing (deed.Took number) = false
did_nothing (deed.Performed number o) = false
did_nothing (deed.Closed left) = false

-- The line of an event, by its number and the line of the schedule; the line of its statement, and what it did. One that did nothing has a
-- line only if that is asked for.
unfoldable pub step_text : Words → ℕ → ℕ → Event → ℕ → Deed → State → List ℕ
step_text t number line e statement d w =
    if did_nothing d && not t.idle then []
    else head_text number line e ++ (statement_text t.source statement ++ (deed_text t.names w e d ++ codes "\n"))
