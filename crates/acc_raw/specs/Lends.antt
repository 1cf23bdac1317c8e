-- What a block ends as, once a `&mut` to its cells has ended.
use Rattle.std.specs.Prelude.{ℤ, List, length}
use Rattle.std.specs.Borrow.{Fml, MutBor, Array, Lends, i64 as cell}
use Rattle.std.specs.List.{refill}
use Rattle.acc_raw.specs.declared.block.Block.{Block}
use Rattle.acc_raw.specs.contracts.block.Block.{the_row}

-- the block with the cells replaced, as many
abbrev pub with_refill : Block → List ℤ → Block
with_refill b xs = record { at = b.at; len = b.len; cells = refill (length b.cells) b.cells xs }

abbrev pub lends_cells : MutBor Block → MutBor (List ℤ) → Fml
lends_cells b r = Lends the_row (Array cell 0) b r (with_refill b.now)
