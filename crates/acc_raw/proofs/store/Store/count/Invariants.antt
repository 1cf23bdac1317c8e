use Rattle.std.proofs.Common.{length}
use Rattle.acc_raw.proofs.store.Store.count.Given as goal

abbrev pub ghost-nth_by : goal.ghost-nth_by
ghost-nth_by g a = length a.from.now.links
