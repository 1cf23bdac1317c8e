use Rattle.acc_base.proofs.ContainsAndOverlaps.{contains_is_includes}
use Rattle.acc_base.proofs.range.Range.contains.Goals as goal

pub returns-clause-set : goal.returns-clause-set
returns-clause-set c = rw c.bounds_hold.ensures (contains_is_includes c.args.self.now c.args.other.now)
