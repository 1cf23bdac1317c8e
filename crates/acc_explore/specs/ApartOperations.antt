-- An operation that stands apart may go first: a copy or a loop with whose cells no other queue has a conflict still to perform, and no
-- host a statement to begin before the operation comes, be it a directive that names an array of these cells. Nothing orders what doesn't
-- conflict (OpenACC API 3.0, 2.16, Asynchronous Behavior).
use Rattle.std.specs.Prelude.{ℕ, zero, suc, Bool, true, false, not, ◌&&◌, ◌||◌, ◌==◌, ◌+◌, nat_lt, List, [], ◌∷◌, drop, length, map, slice_index_or}
use Rattle.std.specs.List.{list_all, list_any}
use Rattle.acc_base.specs.declared.ids.QueueAt.{QueueAt}
use Rattle.acc_base.specs.declared.range.Range.{Range}
use Rattle.acc_base.specs.Queues.{at_seat, queue_count, same_queue}
use Rattle.acc_base.specs.Ranges.{range_overlaps}
use Rattle.acc_batch.specs.declared.label.OpLabel.{OpLabel}
use Rattle.acc_batch.specs.declared.label.OpLabel.TheVariants.{Make, CopyIn, CopyOut, Release, Run, Await, Close}
use Rattle.acc_batch.specs.Labels.{on_queue, ops_of}
use Rattle.acc_core.specs.Machine.{State, can_perform, is_there, labels_of, ops_left}
use Rattle.acc_explore.specs.declared.conflicts.Access.{Access}
use Rattle.acc_explore.specs.Reductions.{Commutes}
use Rattle.acc_explore.specs.UnseenOperations.{ends_no_batch, nobody_asks}
use Rattle.acc_host.specs.declared.event.Event.TheVariants as event
use Rattle.acc_host.specs.declared.program.Act.{Act}
use Rattle.acc_host.specs.declared.program.Act.TheVariants as act
use Rattle.acc_host.specs.declared.program.Statement.{Statement}
use Rattle.acc_host.specs.declared.state.Phase.{Phase}
use Rattle.acc_host.specs.declared.state.Phase.TheVariants as phase
use Rattle.acc_host.specs.Hosts.{HostView}
use Rattle.acc_kernel.specs.Faults.{is_assigned}
use Rattle.acc_kernel.specs.Jobs.{Use, is_used}
use Rattle.acc_kernel.specs.Kernels.{arrays_of}
use Rattle.acc_place.specs.declared.directive.DataItem.{DataItem}
use Rattle.acc_place.specs.declared.directive.Kind.{Kind}
use Rattle.acc_place.specs.declared.directive.Kind.TheVariants as kind
use Rattle.acc_place.specs.Directives.{Directive}
use Rattle.acc_place.specs.Regions.{ends_region}
use Rattle.acc_work.specs.Logs.{batches_done, performed}

-- ## Conflicts

-- Two accesses conflict where some cell is in both, and one of them writes.
abbrev pub conflict : Access → Access → Bool
conflict a b = (a.writes || b.writes) && range_overlaps a.cells b.cells

abbrev pub any_conflict : List Access → List Access → Bool
any_conflict xs ys = list_any (λ x. list_any (conflict x) ys) xs

abbrev pub reads_only : Range → Access
reads_only r = record { cells = r; writes = false }

abbrev pub writes_too : Range → Access
writes_too r = record { cells = r; writes = true }

-- of the host arrays
abbrev pub host_accesses : OpLabel → List Access
host_accesses (Make r b) = []
host_accesses (CopyIn r b) = reads_only r ∷ []
host_accesses (CopyOut r b) = writes_too r ∷ []
host_accesses (Release b) = []
host_accesses (Run k uses) = []
host_accesses (Await q n) = []
host_accesses Close = []

-- the cells of a block, as of an array with its number
abbrev pub in_block : ℕ → Range → Range
in_block b r = record { array = b; lo = r.lo; len = r.len }

-- of the blocks of the device; a loop writes those of the arrays that it assigns
abbrev pub block_accesses : OpLabel → List Access
block_accesses (Make r b) = writes_too (in_block b r) ∷ []
block_accesses (CopyIn r b) = writes_too (in_block b r) ∷ []
block_accesses (CopyOut r b) = reads_only (in_block b r) ∷ []
block_accesses (Release b) = []
block_accesses (Run k uses) = map (λ (u : Use). record { cells = in_block u.0 u.1; writes = is_assigned k.statements u.1.array }) uses
block_accesses (Await q n) = []
block_accesses Close = []

-- two operations, each of a device
abbrev pub ops_conflict : ℕ → OpLabel → ℕ → OpLabel → Bool
ops_conflict d op e other =
    any_conflict (host_accesses op) (host_accesses other) || ((d == e) && any_conflict (block_accesses op) (block_accesses other))

-- of a statement, to the host arrays
abbrev pub act_accesses : Act → List Access
act_accesses (act.Place d) = []
act_accesses (act.Write array cell value) = writes_too (record { array = array; lo = cell; len = 1 }) ∷ []
act_accesses (act.Print range) = reads_only range ∷ []
act_accesses (act.SetDevice n) = []
act_accesses (act.SetAsync v) = []
act_accesses act.ShowDevice = []
act_accesses act.ShowDevices = []

-- ## The other queues

-- what was placed on a queue and isn't performed
abbrev pub ops_to_come : State → QueueAt → List OpLabel
ops_to_come w q = drop (length (performed q w.work)) (ops_of (on_queue q (labels_of w)))

-- a queue has no conflict with an operation of this one to come
abbrev pub queue_is_clear : State → QueueAt → OpLabel → QueueAt → Bool
queue_is_clear w at op q = same_queue at q || list_all (λ (x : OpLabel). not (ops_conflict at.device op q.device x)) (ops_to_come w q)

-- none of the first n has
abbrev pub queues_are_clear : State → QueueAt → OpLabel → ℕ → Bool
queues_are_clear w at op zero = true
queues_are_clear w at op (suc n) = queue_is_clear w at op (at_seat n) && queues_are_clear w at op n

-- ## The hosts

-- a host waits until this queue has performed more batches
abbrev pub waits_for : State → QueueAt → Phase → Bool
waits_for w at phase.Ready = false
waits_for w at (phase.Waits device counts) = (device == at.device) && nat_lt (batches_done (labels_of w) w.work at) (slice_index_or counts at.queue 0)
waits_for w at (phase.Asks device counts) = false
waits_for w at (phase.Refused fault) = false

-- the operation touches cells of a host array, or those of a block that stands for them
abbrev pub touches_array : OpLabel → ℕ → Bool
touches_array (Make r b) array = r.array == array
touches_array (CopyIn r b) array = r.array == array
touches_array (CopyOut r b) array = r.array == array
touches_array (Release b) array = false
touches_array (Run k uses) array = is_used uses array
touches_array (Await q n) array = false
touches_array Close array = false

-- the arrays that a loop refers to, besides those of its data clauses
abbrev pub arrays_in : Kind → List ℕ
arrays_in (kind.Loop k) = arrays_of k
arrays_in k = []

-- A directive may be about an array that the operation touches: the end of a data construct about what the construct names.
abbrev pub may_name : OpLabel → Directive → Bool
may_name op d =
    ends_region d.kind || (list_any (λ (i : DataItem). touches_array op i.range.array) d.items || list_any (touches_array op) (arrays_in d.kind))

-- a statement may conflict with the operation, or place what does
abbrev pub meets : OpLabel → Act → Bool
meets op (act.Place d) = may_name op d
meets op a = any_conflict (host_accesses op) (act_accesses a)

-- the statements that a host has still to begin: one that waits or asks has placed the directive that it stands at, and one that was
-- refused begins no more
abbrev pub to_begin : HostView → Phase → List Statement
to_begin host phase.Ready = drop host.ended host.statements
to_begin host (phase.Waits device counts) = drop (host.ended + 1) host.statements
to_begin host (phase.Asks device counts) = drop (host.ended + 1) host.statements
to_begin host (phase.Refused fault) = []

-- none of them does
abbrev pub keeps_clear : OpLabel → HostView → Bool
keeps_clear op host = list_all (λ (s : Statement). not (meets op s.act)) (to_begin host host.phase)

abbrev pub host_is_clear : State → QueueAt → OpLabel → HostView → Bool
host_is_clear w at op host = waits_for w at host.phase || keeps_clear op host

-- ## The operation

-- The first of these operations, which are left on a queue, can be performed, and ends no batch, unless nobody asks; and it is clear of
-- the other queues and of the hosts.
abbrev pub begins_apart : State → QueueAt → List OpLabel → Bool
begins_apart w at [] = false
begins_apart w at (op ∷ later) =
    can_perform (labels_of w) w.work at op
    && ((ends_no_batch (labels_of w) w.work at op || nobody_asks w)
    && (queues_are_clear w at op (queue_count w.config) && list_all (host_is_clear w at op) w.hosts))

-- a queue is there, and such an operation comes next of what it has taken
abbrev pub is_at_apart : QueueAt → State → Bool
is_at_apart at w = is_there w at && begins_apart w at (ops_left w (labels_of w) at)

-- Where the owner may not close, its step commutes with every other event.
abbrev pub ApartOperationsCommute : Type 0
ApartOperationsCommute = (at : QueueAt) → Commutes false (is_at_apart at) (event.Perform at)
