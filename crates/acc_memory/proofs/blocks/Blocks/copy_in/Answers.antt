use Rattle.acc_memory.proofs.BlockCalls.{range_at, copy_fits, copies_in}
use Rattle.acc_memory.proofs.blocks.Blocks.copy_in.Goals as goal

pub store-requires : goal.store-requires
store-requires c =
    copy_fits c.args.self.now c.args.block c.args.range c.args.cells.now (range_at c.args.self.now c.args.block c.args.range c.requires.held c.requires.some) c.keeps.ensures c.requires.array

pub returns-clause-shows : goal.returns-clause-shows
returns-clause-shows c =
    (copies_in c.args.self.now c.store.new.self c.args.block c.args.range c.args.cells.now
    (range_at c.args.self.now c.args.block c.args.range c.requires.held c.requires.some) c.keeps.ensures c.requires.array c.store.ensures).shows

pub returns-clause-blocks : goal.returns-clause-blocks
returns-clause-blocks c =
    (copies_in c.args.self.now c.store.new.self c.args.block c.args.range c.args.cells.now
    (range_at c.args.self.now c.args.block c.args.range c.requires.held c.requires.some) c.keeps.ensures c.requires.array c.store.ensures).blocks
