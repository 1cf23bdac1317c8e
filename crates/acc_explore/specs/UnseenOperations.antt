-- An operation that nobody sees may go first: one that makes or releases a block, or awaits what is performed. Hosts see of cells those
-- of host arrays, and of a queue how many batches it has performed, where they ask (OpenACC API 3.0, 2.16, Asynchronous Behavior). One
-- that waits goes on all the same.
use Rattle.std.specs.Prelude.{◌≡◌, ◌≤◌, ◌+◌, IsTrue, Bool, true, false, not, ◌&&◌, ◌||◌, ◌==◌, List, [], ◌∷◌, drop}
use Rattle.std.specs.List.{list_all}
use Rattle.acc_base.specs.declared.ids.QueueAt.{QueueAt}
use Rattle.acc_batch.specs.declared.entry.WorkEntry.{WorkEntry}
use Rattle.acc_batch.specs.declared.entry.WorkEntry.TheVariants as entry
use Rattle.acc_batch.specs.declared.label.Label.{Label}
use Rattle.acc_batch.specs.declared.label.OpLabel.{OpLabel}
use Rattle.acc_batch.specs.declared.label.OpLabel.TheVariants.{Make, CopyIn, CopyOut, Release, Run, Await, Close}
use Rattle.acc_core.specs.Machine.{State, can_perform, is_there, labels_of, ops_left, step, taken_on}
use Rattle.acc_explore.specs.Reductions.{Commutes}
use Rattle.acc_host.specs.declared.event.Event.{Event}
use Rattle.acc_host.specs.declared.event.Event.TheVariants as event
use Rattle.acc_host.specs.declared.program.Act.{Act}
use Rattle.acc_host.specs.declared.program.Act.TheVariants as act
use Rattle.acc_host.specs.declared.program.Statement.{Statement}
use Rattle.acc_host.specs.declared.state.Phase.{Phase}
use Rattle.acc_host.specs.declared.state.Phase.TheVariants as phase
use Rattle.acc_host.specs.Hosts.{HostView}
use Rattle.acc_place.specs.declared.directive.Kind.{Kind}
use Rattle.acc_place.specs.declared.directive.Kind.TheVariants as kind
use Rattle.acc_work.specs.Logs.{batches_done}

-- it reads no cell, and writes those alone of a block that it makes
abbrev pub is_unseen : OpLabel → Bool
is_unseen (Make r b) = true
is_unseen (CopyIn r b) = false
is_unseen (CopyOut r b) = false
is_unseen (Release b) = true
is_unseen (Run k uses) = false
is_unseen (Await q n) = true
is_unseen Close = false

-- behind it the queue has performed as many batches as before
abbrev pub ends_no_batch : List Label → List WorkEntry → QueueAt → OpLabel → Bool
ends_no_batch labels work at op = batches_done labels (entry.Op at op ∷ work) at == batches_done labels work at

-- `acc_async_test` and `acc_async_test_all` ask how far queues have come (3.2, Runtime Library Routines)
abbrev pub is_question : Kind → Bool
is_question kind.AsyncTest = true
is_question k = false

abbrev pub asks_queues : Act → Bool
asks_queues (act.Place d) = is_question d.kind
asks_queues a = false

abbrev pub is_asking : Phase → Bool
is_asking (phase.Asks device counts) = true
is_asking p = false

-- a host doesn't ask, and none of the statements that it has still to end does
abbrev pub asks_no_more : HostView → Bool
asks_no_more host = not (is_asking host.phase) && list_all (λ (s : Statement). not (asks_queues s.act)) (drop host.ended host.statements)

abbrev pub nobody_asks : State → Bool
nobody_asks w = list_all asks_no_more w.hosts

-- The first of these operations, which are left on a queue, is unseen, can be performed, and ends no batch, unless nobody asks.
abbrev pub begins_unseen : State → QueueAt → List OpLabel → Bool
begins_unseen w at [] = false
begins_unseen w at (op ∷ later) = is_unseen op && (can_perform (labels_of w) w.work at op && (ends_no_batch (labels_of w) w.work at op || nobody_asks w))

-- a queue is there, and such an operation comes next of what it has taken
abbrev pub is_at_unseen : QueueAt → State → Bool
is_at_unseen at w = is_there w at && begins_unseen w at (ops_left w (labels_of w) at)

-- Its step commutes with every other event.
abbrev pub UnseenOperationsCommute : Type 0
UnseenOperationsCommute = (closing : Bool) (at : QueueAt) → Commutes closing (is_at_unseen at) (event.Perform at)

-- A queue takes a batch once it has performed the others. Where two operations are left of it, the next one ends no batch.
abbrev pub MoreIsLeft : Type 0
MoreIsLeft =
    (w : State) (at : QueueAt) (op next : OpLabel) (later : List OpLabel) → ops_left w (labels_of w) at ≡ op ∷ next ∷ later
    → taken_on w at ≤ batches_done (labels_of w) w.work at + 1 → IsTrue (ends_no_batch (labels_of w) w.work at op)

-- Where nobody asks, nobody does behind an event.
abbrev pub NobodyAsksLater : Type 0
NobodyAsksLater = (w : State) (e : Event) → IsTrue (nobody_asks w) → IsTrue (nobody_asks (step false w e).state)
