use Rattle.acc_memory.proofs.window.commit_over.Goals as goal

pub commit_all-requires-clause-has : goal.commit_all-requires-clause-has
commit_all-requires-clause-has c = rw c.uses.ensures c.requires.has
