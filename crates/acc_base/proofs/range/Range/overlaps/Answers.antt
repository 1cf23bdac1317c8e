use Rattle.acc_base.proofs.ContainsAndOverlaps.{overlaps_is_meets}
use Rattle.acc_base.proofs.range.Range.overlaps.Goals as goal

pub returns-clause-set : goal.returns-clause-set
returns-clause-set c = rw c.bounds_meet.ensures (overlaps_is_meets c.args.self.now c.args.other.now)
