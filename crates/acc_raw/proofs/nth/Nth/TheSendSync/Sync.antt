use denote.Param.Send.{IsSync, part_keyless}
use Rattle.acc_raw.proofs.nth.Nth.TheSendSync.Send.{send}
use Rattle.acc_raw.specs.contracts.nth.Nth.{the_row}

pub sync : IsSync the_row
sync = record { shared = λ d b o κ q. part_keyless the_row send q d b o }
