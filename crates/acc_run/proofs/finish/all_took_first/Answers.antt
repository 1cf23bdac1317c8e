use Rattle.std.proofs.Common.{refl}
use Rattle.acc_run.specs.Finishing.{TookFirst}
use Rattle.acc_run.proofs.EachQueue.{at_each}
use Rattle.acc_run.proofs.finish.all_took_first.Goals as goal

pub returns : goal.returns
returns c =
    (λ done. at_each (TookFirst c.args.place.now c.args.work.now) c.args.config.now c.loop-index.index (rw c.queue_count-index-end.ensures.count at c.loop-index-test.false) c.loop-index.invariant, λ all. refl)
