use Rattle.acc_memory.proofs.HostArrays.{arrays_more}
use Rattle.acc_memory.proofs.memory.arrays_of.Goals as goal

pub loop-n-preserved : goal.loop-n-preserved
loop-n-preserved c =
    arrays_more (λ v. v.items) c.loop-n.arrays.items c.push.new.self.items c.args.config.now.arrays c.loop-n.n c.in_ok-from_slice.field-0 c.array.result.now
    c.loop-n.invariant c.array.ensures c.in_ok-from_slice.ensures.items c.in_ok-push.ensures.items
