use Rattle.std.proofs.Common.{◌≡◌, ℕ, ◌<◌, true}
use Rattle.acc_base.specs.Queues.{at_seat}
use Rattle.acc_work.specs.Works.{lane_at}
use Rattle.acc_run.specs.WorkSides.{is_ended}
use Rattle.acc_run.proofs.finish.all_ended.Given as goal

abbrev pub invariant-loop-index : goal.invariant-loop-index
invariant-loop-index l = (n : ℕ) → n < l.index → is_ended (lane_at l.work.work (at_seat n)) ≡ true
