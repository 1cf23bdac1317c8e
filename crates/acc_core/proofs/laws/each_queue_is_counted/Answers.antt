use Rattle.std.proofs.Common.{arith}
use Rattle.acc_core.proofs.laws.each_queue_is_counted.Goals as goal

pub returns : goal.returns
returns c = λ config a b device queue other. (omega (arith, device, queue), λ same. (omega (arith, same, queue, other), omega (arith, same, queue, other)))
