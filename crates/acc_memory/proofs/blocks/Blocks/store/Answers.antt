use Rattle.acc_memory.proofs.StoredRow.{stored_whole, whole_set}
use Rattle.acc_memory.specs.Memories.{find_row}
use Rattle.acc_memory.proofs.blocks.Blocks.store.Goals as goal

pub store-requires : goal.store-requires
store-requires c = rw c.number.ensures (rw (← c.self.view_is) at c.requires)

pub invariant_of-self : goal.invariant_of-self
invariant_of-self c =
    let rows = c.self.inside.buckets in
    whole_set c.args.block _ rows c.store.new.self c.self.invariant
    (stored_whole (find_row rows c.args.block) c.args.first c.args.values.now (c.self.invariant c.args.block) (rw (← c.self.view_is) at c.requires))
    (rw c.number.ensures at c.store.ensures)
