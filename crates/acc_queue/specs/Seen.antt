-- What contracts see of the ends of the progress words: which words they are, and the numbers.
use Rattle.std.specs.Prelude.{ℕ, ◌<◌, List, [], ◌∷◌, ◌+◌, ◌==◌, if◌then◌else◌, length, max, slice_index, slice_set}
use Rattle.acc_base.specs.Queues.{seat}
use Rattle.acc_base.specs.declared.ids.QueueAt.{QueueAt}
use Rattle.acc_base.specs.declared.ids.TheConstants.{QUEUES}
use Rattle.atomic_table.specs.Seated.{TableId}

-- Of the end that raises them: the numbers that it has published, by device, then in queue order.
pub record Raised : Type 0 where
  pub table : TableId
  pub numbers : List ℕ

-- Of an end that reads them: the numbers that it has seen, and how often it read.
pub record Seen : Type 0 where
  pub table : TableId
  pub numbers : List ℕ
  pub reads : ℕ

-- a queue of one of the devices
abbrev pub HasWord : List ℕ → QueueAt → Type 0
HasWord numbers at = (at.queue < QUEUES) × (seat at < length numbers)

-- the number of a queue is one more
abbrev pub raised_at : Raised → QueueAt → Raised
raised_at p at = record p { numbers = slice_set p.numbers (seat at) (slice_index p.numbers (seat at) + 1) }

-- one read more, up to the last number of a word
abbrev pub more : ℕ → ℕ
more n = if n == 18446744073709551615 then n else n + 1

-- the greater of each two
abbrev pub max_each : List ℕ → List ℕ → List ℕ
max_each [] ys = ys
max_each (x ∷ xs) [] = x ∷ xs
max_each (x ∷ xs) (y ∷ ys) = max x y ∷ max_each xs ys
