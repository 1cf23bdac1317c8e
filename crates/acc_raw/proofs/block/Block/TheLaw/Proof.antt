-- A `&` to a block reaches each cell. Assumes `Logic`.
use denote.Struct.Lending.{of_Lends}
use Rattle.acc_raw.specs.contracts.block.Block as C
use Rattle.acc_raw.proofs.block.Block.TheLaw.Statement.{statement}
use Rattle.acc_raw.proofs.BlockSharing.{block_laws, Lends-block}

pub shares : statement
shares = of_Lends C.struct C.the_codes C.the_heap C.the_lent (λ d p. block_laws d.at d.len d.cells) tt (λ M 𝓤 𝓛 d p. Lends-block 𝓛 d.at d.len d.cells)
