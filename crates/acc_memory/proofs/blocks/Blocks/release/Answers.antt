use Rattle.std.proofs.Common.{None}
use Rattle.acc_memory.proofs.AfterOp.{shows_release}
use Rattle.acc_memory.proofs.Rows.{same_released}
use Rattle.acc_memory.proofs.StoredRow.{whole_set}
use Rattle.acc_memory.proofs.blocks.Blocks.release.Goals as goal

pub invariant_of-self : goal.invariant_of-self
invariant_of-self c =
    whole_set c.args.block None c.self.inside.buckets c.remove.new.self c.self.invariant (λ x e. (let never : ⊥ = cc in absurd never)) (rw c.number.ensures at c.remove.ensures.gone)

pub returns-clause-shows : goal.returns-clause-shows
returns-clause-shows c device was =
    rw (← c.self.view_is) (shows_release device c.self.inside.buckets c.remove.new.self c.args.block was (rw c.number.ensures at c.remove.ensures.gone))

pub returns-clause-blocks : goal.returns-clause-blocks
returns-clause-blocks c = rw (← c.self.view_is) (same_released c.args.block c.self.inside.buckets c.remove.new.self (rw c.number.ensures at c.remove.ensures.gone))
