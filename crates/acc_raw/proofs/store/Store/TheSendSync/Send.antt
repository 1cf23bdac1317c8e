use denote.Param.Send.{IsSend}
use denote.RattleType.{RattleType}
use Rattle.acc_raw.proofs.Crosses.{store_sends}
use Rattle.acc_raw.specs.contracts.store.Store.{the_row}

pub send : (R : RattleType) → IsSend R → IsSend (the_row R)
send = store_sends
