use Rattle.acc_report.specs.inner.Standing.{counted_queue_text}
use Rattle.acc_report.proofs.run.put_queue.Goals as goal

pub returns : goal.returns
unfolding counted_queue_text
returns g c =
    let totals = c.placed_on-batches.ensures in
    rw (totals.batches, totals.operations, c.count_at-performed.ensures, c.as_slice.ensures.value, c.count_at-discarded.ensures, c.as_slice-2.ensures.value) at c.put_totals.ensures
