use Rattle.std.proofs.Common.{◌≡◌, Some, sym, ap, ◌∙◌}
use Rattle.acc_memory.specs.Memories.{is_whole}
use Rattle.acc_memory.proofs.AfterOp.{shows_make}
use Rattle.acc_memory.proofs.BlockCalls.{zeros_whole}
use Rattle.acc_memory.proofs.Rows.{no_row, same_made}
use Rattle.acc_memory.proofs.StoredRow.{whole_set}
use Rattle.acc_memory.proofs.blocks.Blocks.make.Goals as goal

pub put-requires : goal.put-requires
put-requires c = no_row c.self.inside.buckets c.args.block.block (rw (← c.self.view_is) at c.requires.fresh)

pub invariant_of-self : goal.invariant_of-self
invariant_of-self c =
    whole_set c.args.block.block (Some c.args.block) c.self.inside.buckets c.put.new.self c.self.invariant
    (λ x e. (let is : c.args.block ≡ x = cc in ap is_whole (sym is) ∙ zeros_whole c.args.block c.requires.zeros)) c.put.ensures

pub returns-clause-shows : goal.returns-clause-shows
returns-clause-shows c device was =
    rw (← c.self.view_is) (shows_make device c.self.inside.buckets c.put.new.self c.args.block was c.requires.zeros c.put.ensures)

pub returns-clause-blocks : goal.returns-clause-blocks
returns-clause-blocks c = rw (← c.self.view_is) (same_made c.args.block c.self.inside.buckets c.put.new.self c.put.ensures)
