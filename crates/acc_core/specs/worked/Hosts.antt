-- The machine computed on programs with several hosts, and with the waits and questions of one (OpenACC API 3.0, 2.16.3, Wait
-- Directive, and 3.2, Runtime Library Routines).
use Rattle.std.specs.Prelude.{◌≡◌, ℕ, zero, suc, ◌+◌, ◌*◌, false, true, List, [], ◌∷◌, ◌++◌, replicate, ℤ, pos}
use Rattle.acc_base.specs.declared.fault.Fault.TheVariants.{BadDevice, QueueFull}
use Rattle.acc_base.specs.declared.ids.TheConstants.{QUEUES}
use Rattle.acc_base.specs.declared.range.Range.{Range}
use Rattle.acc_base.specs.Configurations.{configuration}
use Rattle.acc_batch.specs.declared.label.OpLabel.TheVariants.{Make, CopyIn, CopyOut, Release, Run}
use Rattle.acc_kernel.specs.declared.operator.Operator.TheVariants.{Plus}
use Rattle.acc_kernel.specs.Kernels.{Loop, loop}
use Rattle.acc_kernel.specs.Trees.{Number, Read, Binary}
use Rattle.acc_place.specs.declared.directive.Clause.TheVariants.{Copy, Create, Present, UpdateDevice}
use Rattle.acc_place.specs.declared.directive.Kind.TheVariants as kind
use Rattle.acc_place.specs.declared.directive.Target.TheVariants.{Plain, Value}
use Rattle.acc_place.specs.declared.directive.Waits.TheVariants.{Nothing, All, Listed}
use Rattle.acc_host.specs.declared.program.Act.{Act}
use Rattle.acc_host.specs.declared.program.Act.TheVariants as act
use Rattle.acc_host.specs.declared.state.Phase.TheVariants as phase
use Rattle.acc_host.specs.declared.state.Reply.{Reply}
use Rattle.acc_host.specs.declared.state.Reply.TheVariants as reply
use Rattle.acc_host.specs.Steps.{alone}
use Rattle.acc_batch.specs.declared.entry.Told.TheVariants as shown
use Rattle.acc_batch.specs.declared.entry.WorkEntry.TheVariants as entry
use Rattle.acc_host.specs.declared.event.Event.{Event}
use Rattle.acc_host.specs.declared.event.Event.TheVariants as event
use Rattle.acc_core.specs.worked.Programs.{host, look_after, place, program_of, world}
use Rattle.acc_core.specs.worked.Queues.{both, first, none_goes_on, place_async, place_on, queues_go_on, replies_of, round, wait_for}
use Rattle.acc_core.specs.Worlds.{first_state}

abbrev pub other_host : Event
other_host = event.Host 1

abbrev pub repeated : ℕ → List Event → List Event
repeated zero es = []
repeated (suc n) es = es ++ repeated n es

-- both hosts go on, and then each queue
abbrev pub round_of_two : List Event
round_of_two = host ∷ other_host ∷ queues_go_on 0

-- A host whose batch finds its queue full is refused and stops; the other goes on.
abbrev pub OneHostIsRefused : Type 0
OneHostIsRefused =
    look_after (host ∷ other_host ∷ event.Take first ∷ host ∷ repeated 5 round_of_two)
    (first_state (configuration 1 2 ((pos 0 ∷ pos 0 ∷ []) ∷ []) 4194304 1)
    (program_of 0 (place_async (pos 1) kind.EnterData Create ∷ place_async (pos 1) (kind.Update false) UpdateDevice ∷ [])
    ∷ program_of 1 (place_async (pos 1) (kind.Update false) UpdateDevice ∷ []) ∷ []))
    ≡ record {
      replies =
          reply.Did ∷ reply.Refused QueueFull ∷ reply.Did ∷ reply.Did
          ∷ reply.Idle ∷ reply.Idle ∷ replies_of 3 reply.Idle reply.Did
          ++ reply.Idle ∷ reply.Idle ∷ replies_of 3 reply.Did reply.Did ++ replicate (3 * (2 + 2 * QUEUES)) reply.Idle;
      present = record { range = both; block = 1; s = 0; d = 1 } ∷ [];
      work = entry.Op first (CopyIn both 1) ∷ entry.Op first (Make both 1) ∷ [];
      ended = 2 ∷ 0 ∷ [];
      phases = phase.Ready ∷ phase.Refused QueueFull ∷ [];
    }

-- `b[i] = b[i] + 10`
abbrev pub tens : Loop
tens = loop (pos 0) (pos 2) (record { array = 0; value = Binary Plus (Read 0 (pos 0)) (Number (pos 10)) } ∷ [])

-- the replies to a round in which the host waits, and its queue performs an operation
abbrev pub still_running : List Reply
still_running = reply.Idle ∷ replies_of 3 reply.Idle reply.Did

abbrev pub one_and_two : List (List ℤ)
one_and_two = (pos 1 ∷ pos 2 ∷ []) ∷ []

-- What a loop counts leaves with its directive, though its batch is performed later; a host prints what is there until then.
abbrev pub LoopIsDoneAtTheWait : Type 0
LoopIsDoneAtTheWait =
    look_after (replicate 3 host ++ repeated 8 round)
    (world one_and_two
    (place_async (pos 1) (kind.Loop tens) Copy ∷ place kind.IsPresent Present both ∷ act.Print both ∷ wait_for (pos 1) ∷ act.Print both ∷ []))
    ≡ record {
      replies =
          replicate 4 reply.Did ++ replies_of 3 reply.Did reply.Did
          ++ still_running ++ still_running ++ still_running ++ still_running
          ++ reply.Did ∷ none_goes_on ++ reply.Did ∷ none_goes_on ++ reply.Idle ∷ none_goes_on;
      present = [];
      work =
          entry.Item 0 (shown.Print both (pos 11 ∷ pos 12 ∷ []))
          ∷ entry.Item 0 (shown.Seen 0 (alone 3 1))
          ∷ entry.Op first (Release 1) ∷ entry.Op first (CopyOut both 1) ∷ entry.Op first (Run tens ((1, both) ∷ []))
          ∷ entry.Op first (CopyIn both 1) ∷ entry.Op first (Make both 1)
          ∷ entry.Item 0 (shown.Print both (pos 1 ∷ pos 2 ∷ [])) ∷ [];
      ended = 5 ∷ [];
      phases = phase.Ready ∷ [];
    }

-- a test of the queue of an async value, and of all
abbrev pub test : ℤ → Act
test v = place_on kind.AsyncTest [] Plain (Listed (v ∷ []))

abbrev pub test_all : Act
test_all = place_on kind.AsyncTest [] Plain All

-- the replies where no queue of either device does anything
abbrev pub none_on_both : List Reply
none_on_both = none_goes_on ++ none_goes_on

abbrev pub only_cell : Range
only_cell = record { array = 0; lo = 0; len = 1 }

-- A test tells the moment of its second step, and at once where nothing was placed; devices are counted from 0, and an array
-- that is present on one is absent on another.
abbrev pub QuestionsTellTheirMoment : Type 0
QuestionsTellTheirMoment =
    look_after (replicate 4 host ++ repeated 10 (host ∷ queues_go_on 0 ++ queues_go_on 1))
    (first_state (configuration 2 1 ((pos 0 ∷ []) ∷ []) 4194304 64)
    (program_of 0
    (place_on kind.EnterData (record { clause = Create; range = only_cell } ∷ []) (Value (pos 1)) Nothing
    ∷ test (pos 1) ∷ test (pos 2) ∷ wait_for (pos 1) ∷ test_all ∷ act.SetDevice 1 ∷ act.ShowDevice ∷ act.ShowDevices
    ∷ place kind.IsPresent Present only_cell ∷ act.SetDevice 2 ∷ [])
    ∷ []))
    ≡ record {
      replies =
          replicate 5 reply.Did ++ replies_of 3 reply.Did reply.Did ++ none_goes_on
          ++ reply.Did ∷ none_on_both ++ reply.Did ∷ none_on_both ++ reply.Did ∷ none_on_both
          ++ reply.Did ∷ none_on_both ++ reply.Did ∷ none_on_both ++ reply.Did ∷ none_on_both
          ++ reply.Did ∷ none_on_both ++ reply.Refused BadDevice ∷ none_on_both ++ reply.Idle ∷ none_on_both;
      present = record { range = only_cell; block = 1; s = 0; d = 1 } ∷ [];
      work =
          entry.Item 0 (shown.Test 0 true (alone 3 1))
          ∷ entry.Item 0 (shown.Seen 0 (alone 3 1))
          ∷ entry.Op first (Make only_cell 1)
          ∷ entry.Item 0 (shown.Test 0 false (alone 3 1)) ∷ [];
      ended = 9 ∷ [];
      phases = phase.Refused BadDevice ∷ [];
    }
