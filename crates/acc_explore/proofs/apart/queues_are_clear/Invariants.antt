use Rattle.std.specs.Prelude.{IsTrue}
use Rattle.acc_explore.specs.ApartOperations.{queues_are_clear}
use Rattle.acc_explore.proofs.apart.queues_are_clear.Given as goal

abbrev pub invariant-loop-seat : goal.invariant-loop-seat
invariant-loop-seat l = IsTrue (queues_are_clear l.world (record { device = l.device; queue = l.queue }) l.op l.seat)
