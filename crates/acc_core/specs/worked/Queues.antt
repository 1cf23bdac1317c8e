-- The machine computed on programs that use several queues (OpenACC API 3.0, 2.16, Asynchronous Behavior).
use Rattle.std.specs.Prelude.{◌≡◌, ℕ, ◌+◌, ◌-◌, ◌*◌, false, List, [], ◌∷◌, ◌++◌, replicate, ℤ, pos, negsuc}
use Rattle.std.specs.List.{flat_map}
use Rattle.acc_base.specs.Queues.{every_queue}
use Rattle.acc_base.specs.declared.ids.QueueAt.{QueueAt}
use Rattle.acc_base.specs.declared.ids.TheConstants.{QUEUES, VALUES}
use Rattle.acc_base.specs.declared.fault.Fault.TheVariants.{BadAsync, DeviceFull}
use Rattle.acc_base.specs.declared.range.Range.{Range}
use Rattle.acc_batch.specs.declared.label.OpLabel.TheVariants.{Make, CopyIn, CopyOut, Release, Run, Await}
use Rattle.acc_kernel.specs.declared.operator.Operator.TheVariants.{Plus, Times}
use Rattle.acc_kernel.specs.Kernels.{Loop, loop}
use Rattle.acc_kernel.specs.Trees.{Number, Read, Index, Binary}
use Rattle.acc_place.specs.declared.directive.Clause.{Clause}
use Rattle.acc_place.specs.declared.directive.Clause.TheVariants.{Copyin, Copyout, Create, Delete, Present, UpdateSelf}
use Rattle.acc_place.specs.declared.directive.DataItem.{DataItem}
use Rattle.acc_place.specs.declared.directive.Kind.{Kind}
use Rattle.acc_place.specs.declared.directive.Kind.TheVariants as kind
use Rattle.acc_place.specs.declared.directive.Target.{Target}
use Rattle.acc_place.specs.declared.directive.Target.TheVariants.{Plain, Unvalued, Value}
use Rattle.acc_place.specs.declared.directive.Waits.{Waits}
use Rattle.acc_place.specs.declared.directive.Waits.TheVariants.{Nothing, All, Listed}
use Rattle.acc_host.specs.declared.program.Act.{Act}
use Rattle.acc_host.specs.declared.program.Act.TheVariants as act
use Rattle.acc_host.specs.declared.state.Phase.TheVariants as phase
use Rattle.acc_host.specs.declared.state.Reply.{Reply}
use Rattle.acc_host.specs.declared.state.Reply.TheVariants as reply
use Rattle.acc_host.specs.Steps.{alone}
use Rattle.acc_batch.specs.declared.entry.Told.TheVariants as shown
use Rattle.acc_batch.specs.declared.entry.WorkEntry.TheVariants as entry
use Rattle.acc_host.specs.declared.event.Event.{Event}
use Rattle.acc_host.specs.declared.event.Event.TheVariants as event
use Rattle.acc_core.specs.worked.Programs.{batches_seen, host, look_after, place, sync, world, world_within}

-- both cells of the only array
abbrev pub both : Range
both = record { array = 0; lo = 0; len = 2 }

-- the queues of the async values 1 and 2
abbrev pub first : QueueAt
first = record { device = 0; queue = 3 }

abbrev pub second : QueueAt
second = record { device = 0; queue = 4 }

abbrev pub place_on : Kind → List DataItem → Target → Waits → Act
place_on k items target waits = act.Place (record { device = 0; default = negsuc 0; target = target; waits = waits; kind = k; items = items })

-- a directive with one range, on the queue of an async value
abbrev pub place_async : ℤ → Kind → Clause → Act
place_async v k c = place_on k (record { clause = c; range = both } ∷ []) (Value v) Nothing

-- the host waits until the queue of an async value has performed what was placed on it
abbrev pub wait_for : ℤ → Act
wait_for v = place_on kind.Wait [] Plain (Listed (v ∷ []))

-- `a[i] = a[i] + 1`, and `a[i] = i + 7`
abbrev pub adds : Loop
adds = loop (pos 0) (pos 2) (record { array = 0; value = Binary Plus (Read 0 (pos 0)) (Number (pos 1)) } ∷ [])

abbrev pub sevens : Loop
sevens = loop (pos 0) (pos 2) (record { array = 0; value = Binary Plus Index (Number (pos 7)) } ∷ [])

abbrev pub five_and_six : List (List ℤ)
five_and_six = (pos 5 ∷ pos 6 ∷ []) ∷ []

-- What another queue does with a range waits until the queue that entered it has made its block.
abbrev pub UseAwaitsItsMaker : Type 0
UseAwaitsItsMaker =
    look_after
    (host ∷ host ∷ host ∷ event.Take second ∷ event.Perform second
    ∷ event.Take first ∷ event.Perform first ∷ event.Perform first
    ∷ event.Perform second ∷ event.Perform second ∷ event.Take second ∷ event.Perform second ∷ event.Perform second
    ∷ host ∷ host ∷ host ∷ host ∷ [])
    (world five_and_six
    (place_async (pos 1) kind.EnterData Copyin ∷ place_async (pos 2) (kind.Loop adds) Present ∷ place_async (pos 2) (kind.Update false) UpdateSelf
    ∷ wait_for (pos 2) ∷ act.Print both ∷ []))
    ≡ record {
      replies = reply.Did ∷ reply.Did ∷ reply.Did ∷ reply.Did ∷ reply.Idle ∷ replicate 11 reply.Did ++ reply.Idle ∷ [];
      present = record { range = both; block = 1; s = 0; d = 1 } ∷ [];
      work =
          entry.Item 0 (shown.Print both (pos 6 ∷ pos 7 ∷ []))
          ∷ entry.Item 0 (shown.Seen 0 (alone 4 2))
          ∷ entry.Op second (CopyOut both 1) ∷ entry.Op second (Await 3 1)
          ∷ entry.Op second (Run adds ((1, both) ∷ [])) ∷ entry.Op second (Await 3 1)
          ∷ entry.Op first (CopyIn both 1) ∷ entry.Op first (Make both 1) ∷ [];
      ended = 5 ∷ [];
      phases = phase.Ready ∷ [];
    }

-- A release waits until each other queue that uses the block has done so.
abbrev pub ReleaseAwaitsEachUse : Type 0
ReleaseAwaitsEachUse =
    look_after
    (host ∷ host ∷ host ∷ event.Take first ∷ event.Perform first ∷ event.Take first ∷ event.Perform first
    ∷ event.Take second ∷ event.Perform second ∷ event.Perform second
    ∷ event.Perform first ∷ event.Perform first ∷ event.Perform first
    ∷ host ∷ host ∷ host ∷ host ∷ [])
    (world five_and_six
    (place_async (pos 1) kind.EnterData Create ∷ place_async (pos 2) (kind.Loop sevens) Present ∷ place_async (pos 1) (kind.ExitData false) Copyout
    ∷ wait_for (pos 1) ∷ act.Print both ∷ []))
    ≡ record {
      replies = replicate 6 reply.Did ++ reply.Idle ∷ replicate 9 reply.Did ++ reply.Idle ∷ [];
      present = [];
      work =
          entry.Item 0 (shown.Print both (pos 7 ∷ pos 8 ∷ []))
          ∷ entry.Item 0 (shown.Seen 0 (alone 3 2))
          ∷ entry.Op first (Release 1) ∷ entry.Op first (CopyOut both 1) ∷ entry.Op first (Await 4 1)
          ∷ entry.Op second (Run sevens ((1, both) ∷ [])) ∷ entry.Op second (Await 3 1)
          ∷ entry.Op first (Make both 1) ∷ [];
      ended = 5 ∷ [];
      phases = phase.Ready ∷ [];
    }

-- An async value past those that have a queue each goes round, and names that of its remainder; a negative value of no meaning names none.
abbrev pub AsyncValuesNameQueues : Type 0
AsyncValuesNameQueues =
    look_after (host ∷ host ∷ host ∷ host ∷ event.Take first ∷ event.Perform first ∷ event.Take first ∷ event.Perform first ∷ [])
    (world five_and_six (place_async (pos (VALUES + 1)) kind.EnterData Create ∷ place_async (pos 1) (kind.Update false) UpdateSelf ∷ place_async (negsuc 4) (kind.Update false) UpdateSelf ∷ []))
    ≡ record {
      replies = reply.Did ∷ reply.Did ∷ reply.Refused BadAsync ∷ reply.Idle ∷ replicate 4 reply.Did;
      present = record { range = both; block = 1; s = 0; d = 1 } ∷ [];
      work = entry.Op first (CopyOut both 1) ∷ entry.Op first (Make both 1) ∷ [];
      ended = 2 ∷ [];
      phases = phase.Refused BadAsync ∷ [];
    }

abbrev pub first_cell : Range
first_cell = record { array = 0; lo = 0; len = 1 }

abbrev pub noval : QueueAt
noval = record { device = 0; queue = 1 }

abbrev pub times_six : Loop
times_six = loop (pos 0) (pos 1) (record { array = 0; value = Binary Times (Read 0 (pos 0)) (Number (pos 6)) } ∷ [])

abbrev pub place_unvalued : Kind → Clause → Act
place_unvalued k c = place_on k (record { clause = c; range = first_cell } ∷ []) Unvalued Nothing

-- `async` without a value is the queue of the host's default, and a `wait` without queues names all of them.
abbrev pub DefaultQueueRunsInOrder : Type 0
DefaultQueueRunsInOrder =
    look_after
    (replicate 5 host ++ event.Take noval ∷ event.Perform noval ∷ event.Take noval ∷ event.Perform noval ∷ event.Take noval ∷ event.Perform noval
    ∷ host ∷ event.Take noval ∷ event.Perform noval ∷ event.Perform noval ∷ host ∷ host ∷ host ∷ [])
    (world ((pos 0 ∷ []) ∷ [])
    (act.Write 0 0 (pos 7) ∷ place_unvalued kind.EnterData Copyin ∷ place_unvalued (kind.Loop times_six) Present ∷ place_unvalued (kind.ExitData false) Copyout
    ∷ place_on kind.Wait [] Plain All ∷ act.Print first_cell ∷ []))
    ≡ record {
      replies = replicate 7 reply.Did ++ reply.Idle ∷ replicate 3 reply.Did ++ reply.Idle ∷ replicate 5 reply.Did ++ reply.Idle ∷ [];
      present = [];
      work =
          entry.Item 0 (shown.Print first_cell (pos 42 ∷ []))
          ∷ entry.Item 0 (shown.Seen 0 (alone 1 3))
          ∷ entry.Op noval (Release 1) ∷ entry.Op noval (CopyOut first_cell 1)
          ∷ entry.Op noval (Run times_six ((1, first_cell) ∷ []))
          ∷ entry.Op noval (CopyIn first_cell 1) ∷ entry.Op noval (Make first_cell 1)
          ∷ entry.Item 0 (shown.Write 0 0 (pos 7)) ∷ [];
      ended = 6 ∷ [];
      phases = phase.Ready ∷ [];
    }

abbrev pub wait_on : ℤ → Waits → Act
wait_on v waits = place_on kind.Wait [] (Value v) waits

-- A `wait` that goes to a queue is a batch there where it awaits something on another, and holds no host back.
abbrev pub WaitsAreBatches : Type 0
WaitsAreBatches =
    look_after
    (replicate 5 host ++ event.Take second ∷ event.Perform second ∷ event.Take first ∷ event.Perform first ∷ event.Perform second
    ∷ event.Take second ∷ event.Perform second ∷ event.Take second ∷ event.Take first ∷ [])
    (world five_and_six
    (wait_for (pos 3) ∷ place_async (pos 1) kind.EnterData Create ∷ wait_on (pos 1) (Listed (pos 1 ∷ [])) ∷ wait_on (pos 2) (Listed (pos 1 ∷ []))
    ∷ wait_on (pos 2) All ∷ []))
    ≡ record {
      replies = replicate 6 reply.Did ++ reply.Idle ∷ replicate 5 reply.Did ++ reply.Idle ∷ reply.Idle ∷ [];
      present = record { range = both; block = 1; s = 0; d = 1 } ∷ [];
      work = entry.Op second (Await 3 1) ∷ entry.Op second (Await 3 1) ∷ entry.Op first (Make both 1) ∷ [];
      ended = 5 ∷ [];
      phases = phase.Ready ∷ [];
    }

-- each queue of a device takes a batch and performs an operation
abbrev pub turn_of : ℕ → ℕ → List Event
turn_of device q = event.Take (record { device = device; queue = q }) ∷ event.Perform (record { device = device; queue = q }) ∷ []

abbrev pub queues_go_on : ℕ → List Event
queues_go_on device = flat_map (turn_of device) every_queue

-- the host goes on, and then each queue
abbrev pub round : List Event
round = host ∷ queues_go_on 0

-- the replies where this queue of a device alone takes or performs something
abbrev pub replies_of : ℕ → Reply → Reply → List Reply
replies_of q taken performed = replicate (2 * q) reply.Idle ++ taken ∷ performed ∷ replicate (2 * (QUEUES - (q + 1))) reply.Idle

-- and where none does
abbrev pub none_goes_on : List Reply
none_goes_on = replicate (2 * QUEUES) reply.Idle

abbrev pub eight_cells : Range
eight_cells = record { array = 0; lo = 0; len = 8 }

abbrev pub other_cell : Range
other_cell = record { array = 1; lo = 0; len = 1 }

-- A range that has left needs none of the capacity, though its release has not been performed; what has come since does.
abbrev pub CapacityIsOfWhatIsPresent : Type 0
CapacityIsOfWhatIsPresent =
    look_after (round ++ round ++ replicate 3 host)
    (world_within 8 (replicate 8 (pos 0) ∷ (pos 0 ∷ []) ∷ [])
    (place kind.EnterData Create eight_cells
    ∷ place_on (kind.ExitData false) (record { clause = Delete; range = eight_cells } ∷ []) (Value (pos 1)) Nothing
    ∷ place_on kind.EnterData (record { clause = Create; range = other_cell } ∷ []) (Value (pos 2)) Nothing
    ∷ place_on kind.EnterData (record { clause = Create; range = eight_cells } ∷ []) (Value (pos 2)) Nothing ∷ []))
    ≡ record {
      replies =
          reply.Did ∷ replies_of 0 reply.Did reply.Did ++ reply.Did ∷ none_goes_on ++ reply.Did ∷ reply.Did ∷ reply.Refused DeviceFull ∷ [];
      present = record { range = other_cell; block = 2; s = 0; d = 1 } ∷ [];
      work = batches_seen 1 ∷ entry.Op sync (Make eight_cells 1) ∷ [];
      ended = 3 ∷ [];
      phases = phase.Refused DeviceFull ∷ [];
    }
