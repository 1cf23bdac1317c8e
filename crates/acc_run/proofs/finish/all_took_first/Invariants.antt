use Rattle.std.proofs.Common.{ℕ, ◌<◌}
use Rattle.acc_base.specs.Queues.{at_seat}
use Rattle.acc_run.specs.Finishing.{TookFirst}
use Rattle.acc_run.proofs.finish.all_took_first.Given as goal

abbrev pub invariant-loop-index : goal.invariant-loop-index
invariant-loop-index l = (n : ℕ) → n < l.index → TookFirst l.place l.work (at_seat n)
