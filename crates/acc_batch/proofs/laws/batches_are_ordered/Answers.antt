use Rattle.acc_batch.proofs.OrderedBatches.{label_ordered, close_ordered}
use Rattle.acc_batch.proofs.laws.batches_are_ordered.Goals as goal

pub returns-clause-placed : goal.returns-clause-placed
returns-clause-placed c = label_ordered

pub returns-clause-closes : goal.returns-clause-closes
returns-clause-closes c = close_ordered
