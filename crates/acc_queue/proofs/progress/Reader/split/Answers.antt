use Rattle.std.proofs.Common.{rules}
use Rattle.acc_queue.proofs.ProgressSteps.{splits}
use Rattle.acc_queue.proofs.progress.Reader.split.Goals as goal

pub split_seat-other-requires : goal.split_seat-other-requires
split_seat-other-requires c = ((search rules), (search rules), splits c.self.inside.seat.id c.self.inside.seat.me.0)
