use Rattle.std.proofs.Common.{◌≡◌, true, refl}
use Rattle.acc_work.specs.Works.{lane_at}
use Rattle.acc_run.specs.WorkSides.{is_ended}
use Rattle.acc_run.proofs.EachQueue.{at_each}
use Rattle.acc_run.proofs.finish.all_ended.Goals as goal

pub returns : goal.returns
returns c =
    (λ done. at_each (λ at. is_ended (lane_at c.args.work.now.work at) ≡ true) c.args.config.now c.loop-index.index (rw c.queue_count-index-end.ensures.count at c.loop-index-test.false) c.loop-index.invariant, λ all. refl)
