use Rattle.acc_explore.proofs.ClosedQueues.{closed_is_unclosing}
use Rattle.acc_explore.proofs.laws.closed_queues_need_no_close.Goals as goal

pub returns : goal.returns
returns c = closed_is_unclosing
