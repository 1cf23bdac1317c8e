-- The marks of blocks that were made. Only private contracts and proofs cite it.
use Rattle.std.specs.Prelude.{◌≡◌, ℕ, ◌+◌, ◌^◌, ◌<◌, List, map, None}
use Rattle.acc_batch.specs.declared.op.Mark.{Mark}
use Rattle.acc_memory.specs.Memories.{MakesView}
use Rattle.acc_memory.specs.inner.Buckets.{find_by}

abbrev pub block_of : Mark → ℕ
block_of mark = mark.block

-- each block from number 1 to a bound was made, and those with a mark
abbrev pub makes_with : ℕ → List Mark → MakesView
makes_with all_to marks = record { all_to = all_to; others = map block_of marks }

-- the bound has risen as far as it can: where there can be a next block, it has no mark
abbrev pub IsRisen : ℕ → List Mark → Type 0
IsRisen all_to marks = all_to + 1 < 2 ^ 64 → find_by block_of marks (all_to + 1) ≡ None
