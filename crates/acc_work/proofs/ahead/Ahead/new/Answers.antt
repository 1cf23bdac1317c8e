use Rattle.acc_work.proofs.ahead.Ahead.new.Goals as goal

pub invariant_of-result : goal.invariant_of-result
invariant_of-result c = rw (c.in_ok-kernel.ensures.equal, c.in_ok-uses.ensures.equal) (c.requires.distinct, c.requires.reached)
