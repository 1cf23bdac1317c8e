use denote.Param.Send.{IsSync}
use denote.RattleType.{RattleType}
use Rattle.acc_raw.proofs.Crosses.{store_syncs}
use Rattle.acc_raw.specs.contracts.store.Store.{the_row}

pub sync : (R : RattleType) → IsSync R → IsSync (the_row R)
sync = store_syncs
