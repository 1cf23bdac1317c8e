use Rattle.std.proofs.Common.{ap, refl}
use Rattle.acc_batch.specs.Ops.{op_labels}
use Rattle.acc_work.proofs.lane.Lane.next.Goals as goal
use Rattle.acc_work.proofs.lane.Lane.next.Goals.{then-len-eq0, else-len-eq0}

pub returns-clause-next : goal.returns-clause-next
returns-clause-next c =
    let left = ap op_labels c.in_ok-next.ensures.next in
    elim c.if-len-eq0.branch [
      | then-len-eq0 w ↦ rw (w.self-is, ← c.self.view_is) (op_labels c.take_next.new.self, left, refl)
      | else-len-eq0 w ↦ rw (w.self-is, ← c.self.view_is) (op_labels c.take_next.new.self, left, refl)
    ]
