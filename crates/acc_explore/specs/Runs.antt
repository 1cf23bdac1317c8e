-- What may come in a run, what it leads to, and what is told of that.
use Rattle.std.specs.Prelude.{◌≡◌, ℕ, zero, suc, Bool, true, false, IsTrue, List, [], ◌∷◌, ◌++◌, length, map}
use Rattle.acc_base.specs.declared.fault.Fault.TheVariants.{Memory}
use Rattle.acc_base.specs.Queues.{at_seat, queue_count}
use Rattle.acc_core.specs.Machine.{State, Step, step}
use Rattle.acc_host.specs.declared.event.Event.{Event}
use Rattle.acc_host.specs.declared.event.Event.TheVariants as event
use Rattle.acc_host.specs.declared.program.HostProgram.{HostProgram}
use Rattle.acc_host.specs.declared.state.Reply.{Reply}
use Rattle.acc_host.specs.declared.state.Reply.TheVariants as reply
use Rattle.acc_host.specs.Hosts.{state_of}
use Rattle.acc_report.specs.Reports.{Left, report}

-- An event may come in a run, where its owner may close or not.
abbrev pub MayCome : Bool → Event → Type 0
MayCome closing (event.Host h) = Unit {0}
MayCome closing (event.Take at) = Unit {0}
MayCome closing (event.Perform at) = Unit {0}
MayCome closing event.Close = IsTrue closing

abbrev pub events_of_hosts : ℕ → List Event
events_of_hosts zero = []
events_of_hosts (suc n) = event.Host n ∷ events_of_hosts n

abbrev pub events_of_queues : ℕ → List Event
events_of_queues zero = []
events_of_queues (suc n) = event.Take (at_seat n) ∷ event.Perform (at_seat n) ∷ events_of_queues n

abbrev pub closing_events : Bool → List Event
closing_events true = event.Close ∷ []
closing_events false = []

-- those that can do something: of the hosts and the queues that are there
abbrev pub open_events : Bool → State → List Event
open_events closing w = events_of_hosts (length w.hosts) ++ (events_of_queues (queue_count w.config) ++ closing_events closing)

-- the state after these events, where no memory is refused
abbrev pub after : State → List Event → State
after w [] = w
after w (e ∷ events) = after (step false w e).state events

-- A step whose reply is no refusal for want of memory is as where no memory is refused.
abbrev pub AmpleUnlessRefused : Type 0
AmpleUnlessRefused =
    (old new : State) (e : Event) (answer : Reply) → Step old e answer new → (answer ≡ reply.Refused Memory → ⊥)
    → step false old e ≡ record { reply = answer; state = new }

-- what a state leaves to be told; nothing is discarded
abbrev pub left_to_tell : State → Left
left_to_tell w =
    record { config = w.config; history = w.history; counts = w.counts; work = w.work; hosts = map state_of w.hosts; discarded = [] }

-- the report of a state, where these are the names of the arrays and the programs of the hosts
abbrev pub report_of : List (List ℕ) → List HostProgram → State → List ℕ
report_of names programs w = report names programs (left_to_tell w)
