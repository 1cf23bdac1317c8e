use Rattle.std.proofs.Common.{rules}
use Rattle.acc_queue.proofs.ProgressSteps.{raises}
use Rattle.acc_queue.proofs.progress.Publisher.raise.Goals as goal

pub fetch_add-requires : goal.fetch_add-requires
fetch_add-requires c = ((search rules), (search rules), raises _ c.self.inside.seat.id c.seat-index.result c.self.inside.seat.me (search rules) (search rules))
