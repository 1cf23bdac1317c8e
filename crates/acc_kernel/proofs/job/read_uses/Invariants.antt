use Rattle.std.proofs.Common.{◌≡◌, take}
use Rattle.acc_kernel.specs.Jobs.{read_uses}
use Rattle.acc_kernel.proofs.job.read_uses.Given as goal

abbrev pub invariant-loop-block : goal.invariant-loop-block
invariant-loop-block l = l.read.items ≡ read_uses l.kernel (take l.block-index l.uses)
