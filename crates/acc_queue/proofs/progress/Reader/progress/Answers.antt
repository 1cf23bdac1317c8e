use Rattle.std.proofs.Common.{rules}
use Rattle.acc_queue.proofs.ProgressSteps.{reads}
use Rattle.acc_queue.proofs.progress.Reader.progress.Goals as goal

pub load-requires : goal.load-requires
load-requires c = ((search rules), (search rules), reads _ c.self.inside.seat.id c.seat-index.result c.self.inside.seat.me (search rules))
