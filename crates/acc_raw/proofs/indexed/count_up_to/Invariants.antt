use Rattle.acc_raw.specs.inner.Segments.{up_to}
use Rattle.acc_raw.proofs.indexed.count_up_to.Given as goal

abbrev pub ghost-nth_by : goal.ghost-nth_by
ghost-nth_by a = up_to a.from.now.1 a.from.now.0.now.items
