use Rattle.acc_raw.proofs.nth.Nth.of.Given as goal

abbrev pub ghost-nth_by : goal.ghost-nth_by
ghost-nth_by a = a.from.now
