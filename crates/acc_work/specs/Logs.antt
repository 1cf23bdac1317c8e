-- What a work log, the latest entry first, says of queues, hosts and cells.
use Rattle.std.specs.Prelude.{ℕ, ◌+◌, Bool, true, false, ◌&&◌, ◌==◌, nat_le, List, [], ◌∷◌, ◌++◌, length, slice_get, Option, Some, None, ℤ, pos}
use Rattle.acc_base.specs.declared.ids.QueueAt.{QueueAt}
use Rattle.acc_base.specs.Queues.{same_queue}
use Rattle.acc_batch.specs.declared.entry.Told.{Told}
use Rattle.acc_batch.specs.declared.entry.Told.TheVariants.{Write, Print, Seen, Test}
use Rattle.acc_batch.specs.declared.entry.WorkEntry.{WorkEntry}
use Rattle.acc_batch.specs.declared.entry.WorkEntry.TheVariants as entry
use Rattle.acc_batch.specs.declared.label.OpLabel.{OpLabel}
use Rattle.acc_batch.specs.declared.label.OpLabel.TheVariants.{Await}
use Rattle.acc_batch.specs.declared.label.Label.{Label}
use Rattle.acc_batch.specs.Labels.{on_queue, whole_batches}
use Rattle.acc_memory.specs.Values.{Cell, Host_cell, Block_cell, or_empty, or_zero, after_op, after_write}

-- A work log as it is kept: its entries, the first one first, and for how many more its last page has room.
pub record WorkLogView : Type 0 where
  pub items : List WorkEntry
  pub free : ℕ

-- one more behind these, or not
abbrev pub one_more : {X : Type 0} → Bool → List X → X → List X
one_more true xs x = xs ++ x ∷ []
one_more false xs x = xs

-- the operations of a queue, in order
abbrev pub performed : QueueAt → List WorkEntry → List OpLabel
performed q [] = []
performed q (entry.Op at op ∷ before) = one_more (same_queue at q) (performed q before) op
performed q (entry.Item host shown ∷ before) = performed q before

-- the operations of a device, in order
abbrev pub device_ops : ℕ → List WorkEntry → List OpLabel
device_ops device [] = []
device_ops device (entry.Op at op ∷ before) = one_more (at.device == device) (device_ops device before) op
device_ops device (entry.Item host shown ∷ before) = device_ops device before

abbrev pub if_one : Bool → ℕ → ℕ
if_one true n = n + 1
if_one false n = n

-- how many items a host has, and how many all hosts have
abbrev pub items_of : ℕ → List WorkEntry → ℕ
items_of host [] = 0
items_of host (entry.Op at op ∷ before) = items_of host before
items_of host (entry.Item h shown ∷ before) = if_one (h == host) (items_of host before)

abbrev pub all_items : List WorkEntry → ℕ
all_items [] = 0
all_items (entry.Op at op ∷ before) = all_items before
all_items (entry.Item h shown ∷ before) = all_items before + 1

abbrev pub after_item : Told → (Cell → ℤ) → Cell → ℤ
after_item (Write a i value) was = after_write a i value was
after_item (Print range values) was = was
after_item (Seen device counts) was = was
after_item (Test device answer counts) was = was

-- The value of a cell: what the latest entry that writes it wrote, else its initial value.
abbrev pub value : List (List ℤ) → List WorkEntry → Cell → ℤ
value initial [] (Host_cell array cell) = or_zero (slice_get (or_empty (slice_get initial array)) cell)
value initial [] (Block_cell device block cell) = pos 0
value initial (entry.Op at op ∷ before) c = after_op at.device op (value initial before) c
value initial (entry.Item host shown ∷ before) c = after_item shown (value initial before) c

-- how many batches of a queue are performed
abbrev pub batches_done : List Label → List WorkEntry → QueueAt → ℕ
batches_done labels work at = whole_batches (on_queue at labels) (length (performed at work))

-- each queue of the device, from this one on, has performed its count
abbrev pub all_done : List Label → List WorkEntry → ℕ → ℕ → List ℕ → Bool
all_done labels work device q [] = true
all_done labels work device q (n ∷ ns) =
    nat_le n (batches_done labels work (record { device = device; queue = q })) && all_done labels work device (q + 1) ns

-- a host's items before its directive stand before the operations of its batch
abbrev pub host_allows : Option Label → List WorkEntry → Bool
host_allows None work = false
host_allows (Some l) work = nat_le l.items_done (items_of l.host work)

-- an await waits until so many batches of a queue of the same device are performed
abbrev pub await_allows : List Label → List WorkEntry → ℕ → OpLabel → Bool
await_allows labels work device (Await q n) = nat_le n (batches_done labels work (record { device = device; queue = q }))
await_allows labels work device op = true
