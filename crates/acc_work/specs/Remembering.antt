-- The memory beside the log: it shows the log's values, and knows which blocks the log's operations made and which they left.
use Rattle.std.specs.Prelude.{◌≡◌, ℕ, ◌<◌, ℤ, List, [], ◌∷◌, length}
use Rattle.acc_base.specs.Configurations.{lengths_of}
use Rattle.acc_batch.specs.declared.label.OpLabel.{OpLabel}
use Rattle.acc_batch.specs.Lives.{Made}
use Rattle.acc_memory.specs.Memories.{MemoryView, SameBlocks, Shows, held_blocks, blocks_after, was_made_on}
use Rattle.acc_batch.specs.declared.entry.WorkEntry.{WorkEntry}
use Rattle.acc_work.specs.Lives.{was_made}
use Rattle.acc_work.specs.Logs.{device_ops, value}

-- what these operations make of the blocks that are there
abbrev pub blocks_by : List Made → List OpLabel → List Made
blocks_by bs [] = bs
blocks_by bs (op ∷ ops) = blocks_by (blocks_after op bs) ops

-- the blocks that are there on a device after a log
abbrev pub blocks_in : ℕ → List WorkEntry → List Made
blocks_in device work = blocks_by [] (device_ops device work)

-- A memory shows the values of a log over these host arrays, holds the blocks that its operations left, and knows which they made.
pub record Remembers (arrays : List (List ℤ)) (work : List WorkEntry) (m : MemoryView) : Type 0 where
  pub shows : Shows m (value arrays work)
  pub blocks : (d : ℕ) → SameBlocks (held_blocks m d) (blocks_in d work)
  pub made : (d b : ℕ) → d < length m.devices → was_made_on m d b ≡ was_made (device_ops d work) b
  pub lengths : lengths_of m.arrays ≡ lengths_of arrays
