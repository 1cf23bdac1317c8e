-- What the labels of batches, in the order of placing, say of a queue.
use Rattle.std.specs.Prelude.{◌≡◌, ℕ, ◌+◌, ◌-◌, Bool, ◌==◌, ◌||◌, max, nat_le, nat_lt, List, [], ◌∷◌, ◌++◌, length, map, filter, Option, Some, None, if◌then◌else◌}
use Rattle.std.specs.List.{list_any, flat_map}
use Rattle.acc_base.specs.declared.ids.QueueAt.{QueueAt}
use Rattle.acc_base.specs.Queues.{same_queue}
use Rattle.acc_batch.specs.declared.label.OpLabel.{OpLabel}
use Rattle.acc_batch.specs.declared.label.OpLabel.TheVariants.{Make, CopyIn, CopyOut, Release, Run}
use Rattle.acc_kernel.specs.Jobs.{Use}
use Rattle.acc_batch.specs.declared.label.Label.{Label}

abbrev pub on_queue : QueueAt → List Label → List Label
on_queue at labels = filter (λ l. same_queue l.at at) labels

-- All these labels are of one queue.
abbrev pub AllAt : QueueAt → List Label → Type 0
AllAt at [] = Unit {0}
AllAt at (l ∷ ls) = (l.at ≡ at) × AllAt at ls

-- the operations of these batches, in their order
abbrev pub ops_of : List Label → List OpLabel
ops_of [] = []
ops_of (l ∷ ls) = l.ops ++ ops_of ls

-- how many of these batches end within the first n operations
abbrev pub whole_batches : List Label → ℕ → ℕ
whole_batches [] n = 0
whole_batches (l ∷ ls) n = if nat_le (length l.ops) n then 1 + whole_batches ls (n - length l.ops) else 0

-- the batch of the operation with this index among them
abbrev pub batch_at : List Label → ℕ → Option Label
batch_at [] n = None
batch_at (l ∷ ls) n = if nat_lt n (length l.ops) then Some l else batch_at ls (n - length l.ops)

-- the blocks that an operation makes, those that it copies or computes with, and those that it releases
abbrev pub made_blocks : OpLabel → List ℕ
made_blocks (Make r b) = b ∷ []
made_blocks op = []

abbrev pub used_blocks : OpLabel → List ℕ
used_blocks (CopyIn r b) = b ∷ []
used_blocks (CopyOut r b) = b ∷ []
used_blocks (Run k uses) = map (λ (u : Use). u.0) uses
used_blocks op = []

abbrev pub released_blocks : OpLabel → List ℕ
released_blocks (Release b) = b ∷ []
released_blocks op = []

abbrev pub has_number : List ℕ → ℕ → Bool
has_number ns n = list_any (λ k. k == n) ns

-- a batch makes a block; it makes or uses it
abbrev pub makes_block : ℕ → Label → Bool
makes_block b l = has_number (flat_map made_blocks l.ops) b

abbrev pub touches_block : ℕ → Label → Bool
touches_block b l = has_number (flat_map made_blocks l.ops) b || has_number (flat_map used_blocks l.ops) b

abbrev pub greatest : List ℕ → ℕ
greatest [] = 0
greatest (n ∷ ns) = max n (greatest ns)

-- the last of these batches that pass a test, by its number, or 0
abbrev pub last_number : (Label → Bool) → List Label → ℕ
last_number test labels = greatest (map (λ l. l.number) (filter test labels))
