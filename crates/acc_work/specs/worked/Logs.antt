-- Counts of performed batches, and prints, computed on short histories.
use Rattle.std.specs.Prelude.{◌≡◌, ℕ, List, [], ◌∷◌, map, ℤ, pos, true, false}
use Rattle.acc_base.specs.declared.ids.QueueAt.{QueueAt}
use Rattle.acc_batch.specs.declared.label.OpLabel.TheVariants.{Make, CopyIn, CopyOut, Run, Await}
use Rattle.acc_batch.specs.Labels.{whole_batches}
use Rattle.acc_batch.specs.declared.entry.Told.TheVariants.{Write}
use Rattle.acc_batch.specs.declared.entry.WorkEntry.{WorkEntry}
use Rattle.acc_batch.specs.declared.entry.WorkEntry.TheVariants as entry
use Rattle.acc_work.specs.Enabled.{any_left, any_enabled, enabled}
use Rattle.acc_work.specs.Logs.{value, batches_done}
use Rattle.acc_memory.specs.Values.{values_of}
use Rattle.acc_base.specs.declared.range.Range.{Range}
use Rattle.acc_kernel.specs.Kernels.{Loop}
use Rattle.acc_kernel.specs.Trees.{Read, Number, Binary}
use Rattle.acc_kernel.specs.declared.operator.Operator.TheVariants.{Plus}
use Rattle.acc_batch.specs.declared.label.OpLabel.{OpLabel}
use Rattle.acc_batch.specs.declared.label.Label.{Label}

-- cells of the only array
abbrev pub cells : ℕ → ℕ → Range
cells lo len = record { array = 0; lo = lo; len = len }

abbrev pub sync : QueueAt
sync = record { device = 0; queue = 0 }

-- a batch of the first host, on queue sync
abbrev pub batch : ℕ → List OpLabel → Label
batch number ops = record { at = sync; number = number; host = 0; items_done = 0; ops = ops }

-- two batches of two operations each
abbrev pub two_batches : List Label
two_batches =
    batch 1 (Make (cells 0 4) 1 ∷ CopyIn (cells 0 4) 1 ∷ []) ∷ batch 2 (Make (cells 4 2) 2 ∷ CopyIn (cells 4 2) 2 ∷ []) ∷ []

-- the first three of them performed
abbrev pub three_performed : List WorkEntry
three_performed =
    entry.Op sync (Make (cells 4 2) 2) ∷ entry.Op sync (CopyIn (cells 0 4) 1) ∷ entry.Op sync (Make (cells 0 4) 1) ∷ []

abbrev pub noval : QueueAt
noval = record { device = 0; queue = 1 }

-- a batch counts as performed from its last operation on, and on its own queue
abbrev pub MiddleOfABatch : Type 0
MiddleOfABatch =
    (map (whole_batches two_batches) (0 ∷ 1 ∷ 2 ∷ 3 ∷ 4 ∷ []) ≡ 0 ∷ 0 ∷ 1 ∷ 1 ∷ 2 ∷ [])
    × (batches_done two_batches three_performed sync ≡ 1)
    × (batches_done two_batches three_performed noval ≡ 0)

abbrev pub four_values : List (List ℤ)
four_values = (pos 1 ∷ pos 2 ∷ pos 3 ∷ pos 4 ∷ []) ∷ []

-- cells 0 to 3 were copied in, and then the host wrote cells 0 and 1
abbrev pub written : List WorkEntry
written =
    entry.Item 0 (Write 0 1 (pos 9)) ∷ entry.Item 0 (Write 0 0 (pos 8))
    ∷ entry.Op sync (CopyIn (cells 0 4) 1) ∷ entry.Op sync (Make (cells 0 4) 1) ∷ []

-- a print before a copy out shows the host's values, and one behind it the device's, in the cells that were copied
abbrev pub CopyOutIsSeen : Type 0
CopyOutIsSeen =
    (values_of (value four_values written) (cells 0 4) ≡ pos 8 ∷ pos 9 ∷ pos 3 ∷ pos 4 ∷ [])
    × (values_of (value four_values (entry.Op sync (CopyOut (cells 1 2) 1) ∷ written)) (cells 0 4)
    ≡ pos 8 ∷ pos 2 ∷ pos 3 ∷ pos 4 ∷ [])

-- `a[i] = a[i] + 1` from 0 on
abbrev pub counts_up : ℕ → Loop
counts_up hi = record { lo = pos 0; hi = pos hi; statements = record { array = 0; value = Binary Plus (Read 0 (pos 0)) (Number (pos 1)) } ∷ [] }

-- then a loop adds 1 to cells 0 to 1 of the block, and another to cells 0 to 2
abbrev pub counted_up : List WorkEntry
counted_up =
    entry.Op sync (Run (counts_up 3) ((1, cells 0 4) ∷ []))
    ∷ entry.Op sync (Run (counts_up 2) ((1, cells 0 4) ∷ [])) ∷ written

-- loops work on the device's values: a print shows nothing of that before a copy out, and behind it all of it
abbrev pub LoopIsSeen : Type 0
LoopIsSeen =
    (values_of (value four_values counted_up) (cells 0 4) ≡ pos 8 ∷ pos 9 ∷ pos 3 ∷ pos 4 ∷ [])
    × (values_of (value four_values (entry.Op sync (CopyOut (cells 0 4) 1) ∷ counted_up)) (cells 0 4)
    ≡ pos 3 ∷ pos 4 ∷ pos 4 ∷ pos 4 ∷ [])

-- a batch of the first host on queue noval, behind so many of its items
abbrev pub on_noval : ℕ → List OpLabel → Label
on_noval items_done ops = record { at = noval; number = 1; host = 0; items_done = items_done; ops = ops }

-- all that was placed on each queue was taken
abbrev pub one_of_each : QueueAt → ℕ
one_of_each at = 1

-- A batch that awaits another goes on behind it. Two that await each other are stuck, and so is one whose host doesn't have
-- the items before it: what `never_stuck` asks of labels is needed.
abbrev pub StuckWithoutOrder : Type 0
StuckWithoutOrder =
    let make = Make (cells 0 4) 1 in
    let in_order = batch 1 (make ∷ []) ∷ on_noval 0 (Await 0 1 ∷ []) ∷ [] in
    let in_a_ring = batch 1 (Await 1 1 ∷ []) ∷ on_noval 0 (Await 0 1 ∷ []) ∷ [] in
    let without_its_item = on_noval 1 (make ∷ []) ∷ [] in
    (enabled in_order [] 1 noval ≡ false)
    × (enabled in_order (entry.Op sync make ∷ []) 1 noval ≡ true)
    × (any_left in_a_ring [] ≡ true)
    × (any_enabled in_a_ring [] one_of_each ≡ false)
    × (any_left without_its_item [] ≡ true)
    × (any_enabled without_its_item [] one_of_each ≡ false)
