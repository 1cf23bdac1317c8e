use Rattle.acc_memory.proofs.memory.Memory.do_op.Goals as goal

pub run-requires-clause-cells : goal.run-requires-clause-cells
run-requires-clause-cells c = rw (c.get.ensures, c.as_slice.ensures, c.get-in-Run.ensures) (rw c.in-Run.is at c.requires.allowed).1
