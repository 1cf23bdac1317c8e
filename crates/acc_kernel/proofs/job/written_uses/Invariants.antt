use Rattle.std.proofs.Common.{◌≡◌, take}
use Rattle.acc_kernel.specs.Jobs.{written_uses}
use Rattle.acc_kernel.proofs.job.written_uses.Given as goal

abbrev pub invariant-loop-block : goal.invariant-loop-block
invariant-loop-block l = l.written.items ≡ written_uses l.kernel (take l.block-index l.uses)
