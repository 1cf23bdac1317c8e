use denote.Param.Send.{IsSync}
use Rattle.acc_raw.proofs.BlockCrosses.{Block-sync}
use Rattle.acc_raw.specs.contracts.block.Block.{the_row}

pub sync : IsSync the_row
sync = Block-sync
