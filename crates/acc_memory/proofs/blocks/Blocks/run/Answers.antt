use Rattle.acc_memory.proofs.BlocksRun.{has_seen, shows_run}
use Rattle.acc_memory.proofs.blocks.Blocks.run.Goals as goal

pub run_over-requires : goal.run_over-requires
run_over-requires c array cell reach = has_seen c.args.self.now c.args.kernel.now c.args.uses.now
    (record { whole = c.keeps.ensures; held = c.requires.held; distinct = c.requires.distinct; reached = c.requires.reached }) array cell (c.requires.reached array cell reach)

pub returns-clause-shows : goal.returns-clause-shows
returns-clause-shows c device was shows =
    shows_run c.args.self.now c.args.kernel.now c.args.uses.now
    (record { whole = c.keeps.ensures; held = c.requires.held; distinct = c.requires.distinct; reached = c.requires.reached })
    c.run_over.new.blocks c.run_over.ensures.kept c.run_over.ensures.cells device was shows

pub returns-clause-blocks : goal.returns-clause-blocks
returns-clause-blocks c = c.run_over.ensures.kept.blocks
