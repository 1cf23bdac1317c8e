-- The machine computed on programs whose owner closes.
use Rattle.std.specs.Prelude.{◌≡◌, ℕ, ◌+◌, ◌-◌, ◌*◌, false, List, [], ◌∷◌, ◌++◌, map, replicate, reverse, pos}
use Rattle.acc_base.specs.declared.fault.Fault.TheVariants.{Closed}
use Rattle.acc_base.specs.declared.ids.TheConstants.{QUEUES}
use Rattle.acc_base.specs.Configurations.{configuration}
use Rattle.acc_base.specs.Queues.{numbers_from}
use Rattle.acc_batch.specs.declared.label.OpLabel.TheVariants.{Make, Close}
use Rattle.acc_place.specs.declared.directive.Clause.TheVariants.{Create, UpdateSelf}
use Rattle.acc_place.specs.declared.directive.Kind.TheVariants as kind
use Rattle.acc_host.specs.declared.program.Act.{Act}
use Rattle.acc_host.specs.declared.program.Act.TheVariants as act
use Rattle.acc_host.specs.declared.state.Phase.TheVariants as phase
use Rattle.acc_host.specs.declared.state.Reply.TheVariants as reply
use Rattle.acc_batch.specs.declared.entry.Told.TheVariants as shown
use Rattle.acc_batch.specs.declared.entry.WorkEntry.{WorkEntry}
use Rattle.acc_batch.specs.declared.entry.WorkEntry.TheVariants as entry
use Rattle.acc_host.specs.declared.event.Event.TheVariants as event
use Rattle.acc_core.specs.worked.Programs.{host, look_after, program_of, world}
use Rattle.acc_core.specs.worked.Hosts.{repeated}
use Rattle.acc_core.specs.worked.Queues.{both, five_and_six, first, place_async, replies_of, round}
use Rattle.acc_core.specs.Worlds.{first_state}

-- a directive, and one that comes late
abbrev pub enters_and_updates : List Act
enters_and_updates = place_async (pos 1) kind.EnterData Create ∷ place_async (pos 1) (kind.Update false) UpdateSelf ∷ []

-- the closes of these queues, in the order of the log
abbrev pub closes_of : List ℕ → List WorkEntry
closes_of queues = map (λ q. entry.Op (record { device = 0; queue = q }) Close) queues

-- A directive behind closing is refused. Each queue performs its close last, also where a batch is before it; to close again
-- changes nothing.
abbrev pub LateIsRefused : Type 0
LateIsRefused =
    look_after (host ∷ event.Close ∷ host ∷ event.Close ∷ repeated 5 round) (world five_and_six enters_and_updates)
    ≡ record {
      replies =
          reply.Did ∷ reply.Remaining 0 ∷ reply.Refused Closed ∷ reply.Remaining 0
          ∷ reply.Idle ∷ replicate (2 * QUEUES) reply.Did
          ++ reply.Idle ∷ replies_of 3 reply.Did reply.Did
          ++ replicate (3 * (1 + 2 * QUEUES)) reply.Idle;
      present = record { range = both; block = 1; s = 0; d = 1 } ∷ [];
      work = closes_of (3 ∷ reverse (numbers_from 4 (QUEUES - 4))) ++ entry.Op first (Make both 1) ∷ closes_of (2 ∷ 1 ∷ 0 ∷ []);
      ended = 1 ∷ [];
      phases = phase.Refused Closed ∷ [];
    }

-- A queue that holds its room is closed once it has taken a batch.
abbrev pub FullIsClosedLater : Type 0
FullIsClosedLater =
    look_after (host ∷ event.Close ∷ event.Take first ∷ event.Close ∷ [])
    (first_state (configuration 1 1 five_and_six 4194304 1) (program_of 0 enters_and_updates ∷ []))
    ≡ record {
      replies = reply.Did ∷ reply.Remaining 1 ∷ reply.Did ∷ reply.Remaining 0 ∷ [];
      present = record { range = both; block = 1; s = 0; d = 1 } ∷ [];
      work = [];
      ended = 1 ∷ [];
      phases = phase.Ready ∷ [];
    }

-- Writes, prints and a host's own statements go on behind closing.
abbrev pub HostsGoOn : Type 0
HostsGoOn =
    look_after (event.Close ∷ replicate 5 host) (world five_and_six (act.Write 0 0 (pos 7) ∷ act.SetDevice 0 ∷ act.SetAsync (pos 1) ∷ act.Print both ∷ []))
    ≡ record {
      replies = reply.Remaining 0 ∷ replicate 4 reply.Did ++ reply.Idle ∷ [];
      present = [];
      work = entry.Item 0 (shown.Print both (pos 7 ∷ pos 6 ∷ [])) ∷ entry.Item 0 (shown.Write 0 0 (pos 7)) ∷ [];
      ended = 4 ∷ [];
      phases = phase.Ready ∷ [];
    }
