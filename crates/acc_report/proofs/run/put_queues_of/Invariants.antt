use Rattle.acc_place.specs.Plans.{standing_in}
use Rattle.acc_report.specs.Lines.{each_below}
use Rattle.acc_report.specs.Puts.{Puts, sink}
use Rattle.acc_report.specs.inner.Standing.{counted_queue_text}
use Rattle.acc_report.proofs.run.put_queues_of.Given as goal

abbrev pub invariant-loop-queue : goal.invariant-loop-queue
invariant-loop-queue g l =
    Puts (sink (g.W.Write.contents l.fn.out) l.fn.failed) (sink (g.W.Write.contents l.out) l.failed)
    (each_below l.queue (λ q. counted_queue_text (standing_in l.place) l.counted (record { device = l.device; queue = q })))
