use Rattle.acc_work.proofs.NextUsesLive.{any_order}
use Rattle.acc_work.proofs.laws.any_order_is_live.Goals as goal

pub returns : goal.returns
returns c = any_order
