-- What two worlds are compared by. Only private contracts and proofs cite it.
use Rattle.std.specs.Prelude.{◌≡◌, ◌≢◌, ◌<◌, ℕ, true, All, IsTrue, List, length, slice_get, Option, Some, None}
use Rattle.acc_base.specs.Configurations.{has_range}
use Rattle.acc_base.specs.declared.ids.QueueAt.{QueueAt}
use Rattle.acc_base.specs.declared.range.Range.{Range}
use Rattle.acc_base.specs.Queues.{at_seat, queue_count}
use Rattle.acc_batch.specs.declared.entry.WorkEntry.{WorkEntry}
use Rattle.acc_batch.specs.declared.entry.WorkEntry.TheVariants as entry
use Rattle.acc_batch.specs.declared.label.OpLabel.TheVariants.{Make}
use Rattle.acc_batch.specs.Labels.{on_queue}
use Rattle.acc_core.specs.Machine.{State}
use Rattle.acc_core.specs.Progress.{left_there, taken_by}
use Rattle.acc_host.specs.Entries.{Own, own_of}
use Rattle.acc_host.specs.Hosts.{HostView}
use Rattle.acc_memory.specs.Memories.{find_block, has_cell}
use Rattle.acc_memory.specs.Values.{Cell, Host_cell, Block_cell, is_in}
use Rattle.acc_place.specs.declared.directive.Clause.TheVariants.{NoCreate}
use Rattle.acc_place.specs.declared.directive.DataItem.{DataItem}
use Rattle.acc_place.specs.declared.directive.Kind.{Kind}
use Rattle.acc_place.specs.declared.directive.Kind.TheVariants as kind
use Rattle.acc_place.specs.declared.directive.PlaceEntry.{PlaceEntry}
use Rattle.acc_place.specs.declared.directive.PlaceEntry.TheVariants as noted
use Rattle.acc_place.specs.Plans.{PlaceView, standing_in}
use Rattle.acc_place.specs.Standings.{Standing}
use Rattle.acc_present.specs.Presences.{presences}
use Rattle.acc_work.specs.Logs.{value}
use Rattle.acc_work.specs.Remembering.{blocks_in}

-- a cell has one value in both
abbrev pub HoldSame : State → State → Cell → Type 0
HoldSame old new c = value old.config.arrays old.work c ≡ value new.config.arrays new.work c

-- The cells that a host array has.
abbrev pub HoldSameArray : State → State → ℕ → Type 0
HoldSameArray old new array =
    (cell : ℕ) → has_range old.config.arrays (record { array = array; lo = cell; len = 1 }) ≡ true → HoldSame old new (Host_cell array cell)

-- The cells of a range that a block has, if it is there.
abbrev pub HoldSameBlock : State → State → ℕ → ℕ → Range → Type 0
HoldSameBlock old new device block range =
    (cell : ℕ) → IsTrue (is_in range cell) → has_cell (find_block (blocks_in device old.work) block) cell ≡ true → HoldSame old new (Block_cell device block cell)

-- Those of a block that an entry of a work log made.
abbrev pub HoldSameMade : State → State → WorkEntry → Type 0
HoldSameMade old new (entry.Op at (Make range block)) = HoldSameBlock old new at.device block range
HoldSameMade old new e = Unit {0}

-- An entry of a work log is no item of another host than the first ones.
abbrev pub IsShownBelow : ℕ → WorkEntry → Type 0
IsShownBelow hosts (entry.Op at op) = Unit {0}
IsShownBelow hosts (entry.Item host what) = host < hosts

-- A queue has taken as many batches in both, of which as many operations are left.
abbrev pub HasSameProgress : State → State → QueueAt → Type 0
HasSameProgress old new at = (taken_by old at ≡ taken_by new at) × (length (left_there old at) ≡ length (left_there new at))

-- So has each queue that is there.
abbrev pub HaveSameProgress : State → State → Type 0
HaveSameProgress old new = (n : ℕ) → n < queue_count old.config → HasSameProgress old new (at_seat n)

-- Two hosts stand alike, whatever their programs.
abbrev pub StandAlike : Option HostView → Option HostView → Type 0
StandAlike (Some old) (Some new) = (old.ended ≡ new.ended) × (old.ids ≡ new.ids) × (old.phase ≡ new.phase)
StandAlike None other = ⊥
StandAlike (Some old) None = ⊥

-- So does each host.
pub record AllStandAlike (old new : State) : Type 0 where
  pub count : length old.hosts ≡ length new.hosts
  pub each : (h : ℕ) → h < length old.hosts → StandAlike (slice_get old.hosts h) (slice_get new.hosts h)

-- A queue has the same batches behind both.
abbrev pub HasSameBatches : Standing → Standing → QueueAt → Type 0
HasSameBatches old new at = on_queue at old.labels ≡ on_queue at new.labels

-- So has each of the first queues.
abbrev pub HaveSameBatches : ℕ → Standing → Standing → Type 0
HaveSameBatches count old new = (n : ℕ) → n < count → HasSameBatches old new (at_seat n)

-- The same is present on a device.
abbrev pub HasSamePresences : Standing → Standing → ℕ → Type 0
HasSamePresences old new device = presences (old.marks device) ≡ presences (new.marks device)

-- what a place has accepted of a host
abbrev pub own_in : PlaceView → ℕ → List Own
own_in p host = own_of p.config host p.history p.counts

-- A data construct counts all of its items: each takes an action, whether its range is present or not.
abbrev pub CountsAll : Kind → List DataItem → Type 0
CountsAll kind.Data items = All (λ (i : DataItem). i.clause ≢ NoCreate) items
CountsAll k items = Unit {0}

-- An entry of a place history is no directive of another host than the first ones, and one that counts all of its items.
abbrev pub IsCountedBelow : ℕ → PlaceEntry → Type 0
IsCountedBelow hosts (noted.Accepted host d) = (host < hosts) × CountsAll d.kind d.items
IsCountedBelow hosts noted.Closing = Unit {0}
IsCountedBelow hosts (noted.Closed at) = Unit {0}

-- What two places of one configuration were found the same in.
pub record AreComparedPlaces (hosts : ℕ) (old new : PlaceView) : Type 0 where
  pub first : All (IsCountedBelow hosts) old.history
  pub second : All (IsCountedBelow hosts) new.history
  pub entries : length old.history ≡ length new.history
  pub batches : HaveSameBatches (queue_count old.config) (standing_in old) (standing_in new)
  pub present : (device : ℕ) → device < old.config.devices → HasSamePresences (standing_in old) (standing_in new) device
  pub own : (host : ℕ) → host < hosts → own_in old host ≡ own_in new host
