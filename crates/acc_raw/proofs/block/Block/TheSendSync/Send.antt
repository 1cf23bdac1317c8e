use denote.Param.Send.{IsSend}
use Rattle.acc_raw.proofs.BlockCrosses.{Block-send}
use Rattle.acc_raw.specs.contracts.block.Block.{the_row}

pub send : IsSend the_row
send = Block-send
