use Rattle.acc_memory.proofs.LoadedJobs.{IsLoading}
use Rattle.acc_memory.proofs.blocks.Blocks.load.Given as goal

abbrev pub invariant-loop-place : goal.invariant-loop-place
invariant-loop-place l = IsLoading l.self l.fn.job l.job l.place
