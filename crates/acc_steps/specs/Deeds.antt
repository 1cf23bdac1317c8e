-- What an event of a run did.
use Rattle.std.specs.Prelude.{◌≡◌, ℕ, Option, Some, None, slice_get}
use Rattle.std.specs.Option.{option_map}
use Rattle.acc_batch.specs.declared.label.OpLabel.{OpLabel}
use Rattle.acc_core.specs.Machine.{State, labels_of}
use Rattle.acc_core.specs.Progress.{next_by, taken_by}
use Rattle.acc_host.specs.declared.event.Event.{Event}
use Rattle.acc_host.specs.declared.event.Event.TheVariants as event
use Rattle.acc_host.specs.declared.program.Act.{Act}
use Rattle.acc_host.specs.declared.program.Act.TheVariants as act
use Rattle.acc_host.specs.declared.program.Statement.{Statement}
use Rattle.acc_host.specs.declared.state.Phase.{Phase}
use Rattle.acc_host.specs.declared.state.Phase.TheVariants as phase
use Rattle.acc_host.specs.declared.state.Reply.{Reply}
use Rattle.acc_host.specs.declared.state.Reply.TheVariants as reply
use Rattle.acc_host.specs.Hosts.{HostView, line_of}
use Rattle.acc_work.specs.Logs.{all_done}
use Rattle.acc_steps.specs.declared.deed.Deed.{Deed}
use Rattle.acc_steps.specs.declared.deed.Deed.TheVariants as deed

-- the statement that a host stands at, if it is there and has one left
abbrev pub statement_of : HostView → Option Statement
statement_of host = slice_get host.statements host.ended

abbrev pub statement_by : Option HostView → Option Statement
statement_by None = None
statement_by (Some host) = statement_of host

-- the line of the statement that an event makes its host go on with, or 0
abbrev pub line_at : State → Event → ℕ
line_at w (event.Host h) = line_of (statement_by (slice_get w.hosts h))
line_at w (event.Take at) = 0
line_at w (event.Perform at) = 0
line_at w event.Close = 0

-- what a host does that makes the first step of a statement
abbrev pub first_step : Act → Deed
first_step (act.Place d) = deed.Accepted
first_step (act.Write array cell value) = deed.Wrote
first_step (act.Print range) = deed.Printed range
first_step (act.SetDevice n) = deed.Set
first_step (act.SetAsync v) = deed.Set
first_step act.ShowDevice = deed.Set
first_step act.ShowDevices = deed.Set

-- what a host does that goes on in a phase of its statement: the second step of a wait sees what it waits for, that of a question is told
-- whether all that it asks for is performed
abbrev pub step_in : State → Phase → Option Statement → Deed
step_in w p None = deed.Nothing
step_in w phase.Ready (Some s) = first_step s.act
step_in w (phase.Waits device counts) (Some s) = deed.Saw
step_in w (phase.Asks device counts) (Some s) = deed.Tested (all_done (labels_of w) w.work device 0 counts)
step_in w (phase.Refused fault) (Some s) = deed.Nothing

abbrev pub step_by : State → Option HostView → Deed
step_by w None = deed.Nothing
step_by w (Some host) = step_in w host.phase (statement_of host)

abbrev pub performed_by : ℕ → Option OpLabel → Deed
performed_by number None = deed.Nothing
performed_by number (Some op) = deed.Performed number op

-- what an event of a host does that is made, and one by which a queue performs an operation of the batch that it took last
abbrev pub made : State → Event → Deed
made w (event.Host h) = step_by w (slice_get w.hosts h)
made w (event.Take at) = deed.Nothing
made w (event.Perform at) = performed_by (taken_by w at) (next_by w at)
made w event.Close = deed.Nothing

-- what an event did that was made
abbrev pub deed_by : State → State → Event → Deed
deed_by old new (event.Host h) = made old (event.Host h)
deed_by old new (event.Take at) = deed.Took (taken_by new at)
deed_by old new (event.Perform at) = made old (event.Perform at)
deed_by old new event.Close = deed.Nothing

-- What an event did that was answered so, and led from one state to another.
abbrev pub deed_of : State → Event → Reply → State → Deed
deed_of old e reply.Did new = deed_by old new e
deed_of old e reply.Idle new = deed.Nothing
deed_of old e (reply.Refused fault) new = deed.Refused fault
deed_of old e (reply.Remaining count) new = deed.Closed count
