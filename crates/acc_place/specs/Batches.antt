-- What a directive places: the operations of its batch, and its answer (OpenACC API 3.0, 2.7, Data Clauses, 2.14.4, Update
-- Directive, 2.16, Asynchronous Behavior, and 3.2, Runtime Library Routines).
use Rattle.std.specs.Prelude.{ℕ, ◌+◌, Bool, true, false, not, nat_lt, List, [], ◌∷◌, ◌++◌, length, map, filter, Option, Some, None, replicate, if◌then◌else◌, ◌==◌}
use Rattle.std.specs.List.{flat_map, list_all}
use Rattle.acc_base.specs.declared.ids.QueueAt.{QueueAt}
use Rattle.acc_base.specs.declared.ids.TheConstants.{QUEUES}
use Rattle.acc_base.specs.declared.range.Range.{Range}
use Rattle.acc_base.specs.Queues.{every_queue}
use Rattle.acc_kernel.specs.Jobs.{Use}
use Rattle.acc_kernel.specs.Kernels.{Loop, arrays_of}
use Rattle.acc_present.specs.Marks.{Mark}
use Rattle.acc_present.specs.Lifetimes.{Lifetime, opened_lifetimes, live_lifetimes, lives}
use Rattle.acc_present.specs.Presences.{Presence, presences, holder, is_present}
use Rattle.acc_place.specs.declared.directive.Clause.{Clause}
use Rattle.acc_place.specs.declared.directive.Clause.TheVariants.{Copy, Copyin, Copyout, UpdateSelf, UpdateDevice}
use Rattle.acc_place.specs.Directives.{Directive}
use Rattle.acc_place.specs.declared.directive.DataItem.{DataItem}
use Rattle.acc_place.specs.declared.directive.Kind.{Kind}
use Rattle.acc_place.specs.declared.directive.Kind.TheVariants as kind
use Rattle.acc_place.specs.declared.directive.Placed.{Placed}
use Rattle.acc_batch.specs.declared.label.OpLabel.{OpLabel}
use Rattle.acc_batch.specs.declared.label.OpLabel.TheVariants.{Make, CopyIn, CopyOut, Release, Run}
use Rattle.acc_batch.specs.declared.label.Label.{Label}
use Rattle.acc_batch.specs.Awaits.{behind_awaits}
use Rattle.acc_batch.specs.Labels.{on_queue, has_number}
use Rattle.acc_place.specs.Implicit.{item_of}
use Rattle.acc_place.specs.Standings.{Standing, Walk, Visit, all_visits, marks_between}

-- an opening copies in
abbrev pub copies_in : Clause → Bool
copies_in Copy = true
copies_in Copyin = true
copies_in c = false

-- a last exit copies out
abbrev pub copies_out : Clause → Bool
copies_out Copy = true
copies_out Copyout = true
copies_out c = false

abbrev pub opened_block : ℕ → ℕ → List ℕ
opened_block before after = if nat_lt before after then after ∷ [] else []

-- the block of the lifetime that a visit opened, and of those that it ended
abbrev pub opened_blocks : Visit → List ℕ
opened_blocks v = opened_block (length (opened_lifetimes v.before)) (length (opened_lifetimes v.after))

abbrev pub blocks_of : List Lifetime → List ℕ
blocks_of ls = map (λ l. l.block) ls

abbrev pub ended_blocks : Visit → List ℕ
ended_blocks v = blocks_of (filter (λ l. not (lives v.after l)) (live_lifetimes v.before))

abbrev pub makes : Visit → List OpLabel
makes v = map (λ b. Make v.item.range b) (opened_blocks v)

abbrev pub copy_ins : Visit → List OpLabel
copy_ins v = if copies_in v.item.clause then map (λ b. CopyIn v.item.range b) (opened_blocks v) else []

-- a copy out moves the range of the item whose exit ended the lifetime
abbrev pub copy_outs : Visit → List OpLabel
copy_outs v = if copies_out v.item.clause then map (λ b. CopyOut v.item.range b) (ended_blocks v) else []

-- and the whole block is released
abbrev pub releases : Visit → List OpLabel
releases v = map Release (ended_blocks v)

abbrev pub found_block : Option Presence → List ℕ
found_block None = []
found_block (Some p) = p.block ∷ []

-- the block that holds a range after these marks
abbrev pub holding_blocks : List Mark → Range → List ℕ
holding_blocks marks r = found_block (holder (presences marks) r)

-- `self` copies from the device to the host, `device` from the host to the device; an absent range is left alone
abbrev pub updates_by : Clause → Range → List ℕ → List OpLabel
updates_by UpdateSelf r blocks = map (λ b. CopyOut r b) blocks
updates_by UpdateDevice r blocks = map (λ b. CopyIn r b) blocks
updates_by c r blocks = []

abbrev pub updates : Visit → List OpLabel
updates v = updates_by v.item.clause v.item.range (holding_blocks v.before v.item.range)

-- A loop uses of each array the range of the first item that names it, and the block that holds this.
abbrev pub use_by : List Mark → Option DataItem → List Use
use_by marks None = []
use_by marks (Some i) = map (λ b. (b, i.range)) (holding_blocks marks i.range)

abbrev pub uses_by : Loop → List DataItem → List Mark → List Use
uses_by k items marks = flat_map (λ array. use_by marks (item_of array items)) (arrays_of k)

-- the loop runs once the items are there
abbrev pub runs_by : Option Loop → List DataItem → List Mark → List OpLabel
runs_by None items marks = []
runs_by (Some k) items marks = Run k (uses_by k items marks) ∷ []

abbrev pub runs : Walk → List Mark → List OpLabel
runs walk before = runs_by walk.runs (map (λ a. a.item) walk.items) (marks_between before walk)

-- The operations of a batch, group by group, each in written order.
abbrev pub grouped : List OpLabel → List Visit → List OpLabel
grouped run vs =
    flat_map makes vs
    ++ (flat_map copy_ins vs
    ++ (run
    ++ (flat_map updates vs
    ++ (flat_map copy_outs vs
    ++ flat_map releases vs))))

-- what a walk does with blocks
abbrev pub operations_of : Standing → Walk → List OpLabel
operations_of st walk = grouped (runs walk (st.marks walk.device)) (all_visits (st.marks walk.device) walk)

abbrev pub walk_at : Walk → QueueAt
walk_at walk = record { device = walk.device; queue = walk.queue }

-- The batch of a walk: its operations, behind what they await.
unfoldable pub batch_of : Standing → Walk → List OpLabel
batch_of st walk = behind_awaits walk.alone walk.waits (walk_at walk) st.labels (operations_of st walk)

-- the n-th batch of a queue has number n, from 1
abbrev pub next_number : QueueAt → List Label → ℕ
next_number at labels = length (on_queue at labels) + 1

-- an empty batch isn't placed
abbrev pub labels_with : QueueAt → ℕ → ℕ → List Label → List OpLabel → List Label
labels_with at host items_done labels [] = labels
labels_with at host items_done labels (op ∷ ops) =
    labels ++ record { at = at; number = next_number at labels; host = host; items_done = items_done; ops = op ∷ ops } ∷ []

abbrev pub placed_batch : QueueAt → List Label → List OpLabel → Option (QueueAt × ℕ)
placed_batch at labels [] = None
placed_batch at labels (op ∷ ops) = Some (at, next_number at labels)

-- the answer of `acc_is_present`, and of no other directive
abbrev pub is_answered : Kind → List Presence → List DataItem → Bool
is_answered kind.IsPresent ps items = list_all (λ (i : DataItem). is_present ps i.range) items
is_answered k ps items = false

-- A `wait` that holds its host back, and a question about queues, are answered by the numbers of batches on the queues that
-- they name.
abbrev pub counts_queues : Kind → ℕ → Bool
counts_queues kind.Wait own = own == 0
counts_queues kind.AsyncTest own = true
counts_queues k own = false

abbrev pub count_of : List Label → ℕ → List ℕ → ℕ → ℕ
count_of labels device named q = if has_number named q then length (on_queue (record { device = device; queue = q }) labels) else 0

abbrev pub counts_by : Bool → List Label → ℕ → List ℕ → List ℕ
counts_by true labels device named = map (count_of labels device named) every_queue
counts_by false labels device named = replicate QUEUES 0

-- The answer to a directive that is accepted.
unfoldable pub answer_of : Standing → Directive → Walk → Placed
answer_of st d walk =
    record {
      batch = placed_batch (walk_at walk) st.labels (batch_of st walk);
      counts = counts_by (counts_queues d.kind walk.queue) st.labels walk.device walk.waits;
      present = is_answered d.kind (presences (st.marks walk.device)) d.items;
    }
