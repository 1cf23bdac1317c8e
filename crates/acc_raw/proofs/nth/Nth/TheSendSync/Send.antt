-- A number that takes no bytes owns nothing.
use denote.Param.Send.{IsSend}
use Rattle.acc_raw.specs.contracts.nth.Nth.{the_row}

pub send : IsSend the_row
send = record { owned = λ d vs. ((λ us. (tt, tt)), tt); leaving = λ k f vs. tt }
