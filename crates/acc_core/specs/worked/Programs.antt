-- The definitions computed on worked programs: the replies to some events, and the state after them.
use Rattle.std.specs.Prelude.{◌≡◌, ℕ, false, List, [], ◌∷◌, ◌++◌, map, replicate, ℤ, pos, negsuc}
use Rattle.acc_base.specs.declared.ids.QueueAt.{QueueAt}
use Rattle.acc_base.specs.declared.range.Range.{Range}
use Rattle.acc_base.specs.declared.fault.Fault.TheVariants.{PartlyPresent, OutsideRange}
use Rattle.acc_base.specs.Configurations.{configuration}
use Rattle.acc_kernel.specs.declared.operator.Operator.TheVariants.{Times}
use Rattle.acc_kernel.specs.Kernels.{Loop, loop}
use Rattle.acc_kernel.specs.Trees.{Number, Read, Binary}
use Rattle.acc_present.specs.Presences.{Presence, presences}
use Rattle.acc_place.specs.declared.directive.Target.TheVariants.{Plain}
use Rattle.acc_place.specs.declared.directive.Waits.TheVariants.{Nothing}
use Rattle.acc_place.specs.declared.directive.Clause.{Clause}
use Rattle.acc_place.specs.declared.directive.Clause.TheVariants.{Copyin, Copyout, Present, Delete}
use Rattle.acc_place.specs.declared.directive.DataItem.{DataItem}
use Rattle.acc_place.specs.declared.directive.Kind.{Kind}
use Rattle.acc_place.specs.declared.directive.Kind.TheVariants as kind
use Rattle.acc_host.specs.declared.event.Event.{Event}
use Rattle.acc_host.specs.declared.event.Event.TheVariants as event
use Rattle.acc_host.specs.declared.state.Reply.{Reply}
use Rattle.acc_host.specs.declared.state.Reply.TheVariants as reply
use Rattle.acc_host.specs.Steps.{alone}
use Rattle.acc_batch.specs.declared.entry.Told.TheVariants as shown
use Rattle.acc_batch.specs.declared.entry.WorkEntry.{WorkEntry}
use Rattle.acc_batch.specs.declared.entry.WorkEntry.TheVariants as entry
use Rattle.acc_batch.specs.declared.label.OpLabel.TheVariants.{Make, CopyIn, CopyOut, Release, Run}
use Rattle.acc_host.specs.declared.program.Act.{Act}
use Rattle.acc_host.specs.declared.program.Act.TheVariants as act
use Rattle.acc_host.specs.declared.program.HostProgram.{HostProgram}
use Rattle.acc_host.specs.declared.state.Phase.{Phase}
use Rattle.acc_host.specs.declared.state.Phase.TheVariants as phase
use Rattle.acc_host.specs.Hosts.{HostView}
use Rattle.acc_core.specs.Machine.{State, Outcome, step, standing_of}
use Rattle.acc_place.specs.worked.Loops.{shifts, all_x, all_y}
use Rattle.acc_place.specs.Standings.{Standing}
use Rattle.acc_core.specs.Worlds.{first_state}

pub record Played : Type 0 where
  pub replies : List Reply
  pub state : State

abbrev pub ran_on : Played → Outcome → Played
ran_on r o = record { replies = r.replies ++ o.reply ∷ []; state = o.state }

-- events one after another, where memory is never refused
abbrev pub all_from : List Event → Played → Played
all_from [] r = r
all_from (e ∷ es) r = all_from es (ran_on r (step false r.state e))

abbrev pub program_of : ℕ → List Act → HostProgram
program_of host acts = record { host = host; statements = map (λ a. record { line = 1; act = a }) acts }

-- one host with these acts, over these arrays, and a device of so many cells
abbrev pub world_within : ℕ → List (List ℤ) → List Act → State
world_within capacity arrays acts = first_state (configuration 1 1 arrays capacity 64) (program_of 0 acts ∷ [])

abbrev pub world : List (List ℤ) → List Act → State
world = world_within 4194304

abbrev pub sync : QueueAt
sync = record { device = 0; queue = 0 }

abbrev pub cells : ℕ → ℕ → Range
cells lo len = record { array = 0; lo = lo; len = len }

abbrev pub place_all : Kind → List DataItem → Act
place_all k items = act.Place (record { device = 0; default = negsuc 0; target = Plain; waits = Nothing; kind = k; items = items })

abbrev pub place : Kind → Clause → Range → Act
place k c r = place_all k (record { clause = c; range = r } ∷ [])

abbrev pub host : Event
host = event.Host 0

abbrev pub take_batch : Event
take_batch = event.Take sync

abbrev pub perform : Event
perform = event.Perform sync

-- what is looked at in the end
pub record Look : Type 0 where
  pub replies : List Reply
  pub present : List Presence
  pub work : List WorkEntry
  pub ended : List ℕ
  pub phases : List Phase

abbrev pub look_with : Played → Standing → Look
look_with r st =
    record {
      replies = r.replies;
      present = presences (st.marks 0);
      work = r.state.work;
      ended = map (λ (h : HostView). h.ended) r.state.hosts;
      phases = map (λ (h : HostView). h.phase) r.state.hosts;
    }

abbrev pub look_in : Played → Look
look_in r = look_with r (standing_of r.state)

abbrev pub look_after : List Event → State → Look
look_after events w = look_in (all_from events (record { replies = []; state = w }))

-- the host saw so many batches of queue sync
abbrev pub batches_seen : ℕ → WorkEntry
batches_seen n = entry.Item 0 (shown.Seen 0 (alone 0 n))

-- a[4] enters twice and leaves once: one batch, and the dynamic counter is 1
abbrev pub EnteredTwice : Type 0
EnteredTwice =
    look_after
    (host ∷ host ∷ take_batch ∷ take_batch ∷ perform ∷ perform ∷ perform ∷ host ∷ host ∷ host ∷ host ∷ [])
    (world ((pos 0 ∷ pos 0 ∷ pos 0 ∷ pos 0 ∷ []) ∷ [])
    (place kind.EnterData Copyin (cells 0 4) ∷ place kind.EnterData Copyin (cells 0 4) ∷ place (kind.ExitData false) Delete (cells 0 4) ∷ []))
    ≡ record {
      replies = reply.Did ∷ reply.Idle ∷ reply.Did ∷ reply.Idle ∷ reply.Did ∷ reply.Did ∷ reply.Idle ∷ reply.Did ∷ reply.Did ∷ reply.Did ∷ reply.Idle ∷ [];
      present = record { range = cells 0 4; block = 1; s = 0; d = 1 } ∷ [];
      work = batches_seen 1 ∷ entry.Op sync (CopyIn (cells 0 4) 1) ∷ entry.Op sync (Make (cells 0 4) 1) ∷ [];
      ended = 3 ∷ [];
      phases = phase.Ready ∷ [];
    }

-- of a[8] the first half enters, and then a range that overlaps it
abbrev pub OverlapRefused : Type 0
OverlapRefused =
    look_after
    (host ∷ take_batch ∷ perform ∷ perform ∷ host ∷ host ∷ host ∷ [])
    (world ((pos 0 ∷ pos 0 ∷ pos 0 ∷ pos 0 ∷ pos 0 ∷ pos 0 ∷ pos 0 ∷ pos 0 ∷ []) ∷ [])
    (place kind.EnterData Copyin (cells 0 4) ∷ place kind.EnterData Copyin (cells 2 4) ∷ []))
    ≡ record {
      replies = reply.Did ∷ reply.Did ∷ reply.Did ∷ reply.Did ∷ reply.Did ∷ reply.Refused PartlyPresent ∷ reply.Idle ∷ [];
      present = record { range = cells 0 4; block = 1; s = 0; d = 1 } ∷ [];
      work = batches_seen 1 ∷ entry.Op sync (CopyIn (cells 0 4) 1) ∷ entry.Op sync (Make (cells 0 4) 1) ∷ [];
      ended = 1 ∷ [];
      phases = phase.Refused PartlyPresent ∷ [];
    }

-- the host writes a[0] while the device holds a; the copy out brings the device's values back
abbrev pub StaleHostCopy : Type 0
StaleHostCopy =
    look_after
    (host ∷ take_batch ∷ perform ∷ perform ∷ host ∷ host ∷ host ∷ take_batch ∷ perform ∷ perform ∷ host ∷ host ∷ [])
    (world ((pos 1 ∷ pos 2 ∷ pos 3 ∷ pos 4 ∷ []) ∷ [])
    (place kind.EnterData Copyin (cells 0 4) ∷ act.Write 0 0 (pos 9) ∷ place (kind.ExitData false) Copyout (cells 0 4) ∷ act.Print (cells 0 4) ∷ []))
    ≡ record {
      replies = reply.Did ∷ reply.Did ∷ reply.Did ∷ reply.Did ∷ reply.Did ∷ reply.Did ∷ reply.Did ∷ reply.Did ∷ reply.Did ∷ reply.Did ∷ reply.Did ∷ reply.Did ∷ [];
      present = [];
      work =
          entry.Item 0 (shown.Print (cells 0 4) (pos 1 ∷ pos 2 ∷ pos 3 ∷ pos 4 ∷ []))
          ∷ batches_seen 2 ∷ entry.Op sync (Release 1) ∷ entry.Op sync (CopyOut (cells 0 4) 1)
          ∷ entry.Item 0 (shown.Write 0 0 (pos 9))
          ∷ batches_seen 1 ∷ entry.Op sync (CopyIn (cells 0 4) 1) ∷ entry.Op sync (Make (cells 0 4) 1) ∷ [];
      ended = 4 ∷ [];
      phases = phase.Ready ∷ [];
    }

-- `y[i] = x[i + 1]` runs for i from 0 to 2, with x copied in and y copied out; for i up to 3 it would reach past x
abbrev pub shift : ℕ → Act
shift hi =
    place_all (kind.Loop (shifts (pos 1) hi))
    (record { clause = Copyin; range = all_x } ∷ record { clause = Copyout; range = all_y } ∷ [])

abbrev pub LoopRuns : Type 0
LoopRuns =
    look_after
    (host ∷ take_batch ∷ perform ∷ perform ∷ perform ∷ perform ∷ perform ∷ perform ∷ perform ∷ perform ∷ host ∷ host ∷ host ∷ host ∷ [])
    (world ((pos 1 ∷ pos 2 ∷ pos 3 ∷ pos 4 ∷ []) ∷ (pos 0 ∷ pos 0 ∷ pos 0 ∷ pos 0 ∷ []) ∷ [])
    (shift 3 ∷ act.Print all_y ∷ shift 4 ∷ []))
    ≡ record {
      replies =
          reply.Did ∷ reply.Did
          ∷ reply.Did ∷ reply.Did ∷ reply.Did ∷ reply.Did ∷ reply.Did ∷ reply.Did ∷ reply.Did ∷ reply.Idle
          ∷ reply.Did ∷ reply.Did ∷ reply.Refused OutsideRange ∷ reply.Idle ∷ [];
      present = [];
      work =
          entry.Item 0 (shown.Print all_y (pos 2 ∷ pos 3 ∷ pos 4 ∷ pos 0 ∷ []))
          ∷ batches_seen 1
          ∷ entry.Op sync (Release 2) ∷ entry.Op sync (Release 1)
          ∷ entry.Op sync (CopyOut all_y 2)
          ∷ entry.Op sync (Run (shifts (pos 1) 3) ((2, all_y) ∷ (1, all_x) ∷ []))
          ∷ entry.Op sync (CopyIn all_x 1)
          ∷ entry.Op sync (Make all_y 2) ∷ entry.Op sync (Make all_x 1) ∷ [];
      ended = 2 ∷ [];
      phases = phase.Refused OutsideRange ∷ [];
    }

-- `x[i] = x[i] * 2` on x, which is present before the loop and behind it
abbrev pub doubles : Loop
doubles = loop (pos 0) (pos 4) (record { array = 0; value = Binary Times (Read 0 (pos 0)) (Number (pos 2)) } ∷ [])

abbrev pub LoopOnPresent : Type 0
LoopOnPresent =
    look_after
    (host ∷ take_batch ∷ perform ∷ perform ∷ host ∷ host ∷ take_batch ∷ perform ∷ host ∷ host ∷ take_batch ∷ perform ∷ perform ∷ host ∷ host ∷ [])
    (world ((pos 1 ∷ pos 2 ∷ pos 3 ∷ pos 4 ∷ []) ∷ [])
    (place kind.EnterData Copyin all_x ∷ place (kind.Loop doubles) Present all_x ∷ place (kind.ExitData false) Copyout all_x ∷ act.Print all_x ∷ []))
    ≡ record {
      replies = replicate 15 reply.Did;
      present = [];
      work =
          entry.Item 0 (shown.Print all_x (pos 2 ∷ pos 4 ∷ pos 6 ∷ pos 8 ∷ []))
          ∷ batches_seen 3 ∷ entry.Op sync (Release 1) ∷ entry.Op sync (CopyOut all_x 1)
          ∷ batches_seen 2 ∷ entry.Op sync (Run doubles ((1, all_x) ∷ []))
          ∷ batches_seen 1 ∷ entry.Op sync (CopyIn all_x 1) ∷ entry.Op sync (Make all_x 1) ∷ [];
      ended = 4 ∷ [];
      phases = phase.Ready ∷ [];
    }
