use Rattle.acc_memory.proofs.BlocksRun.{has_seen, shows_run}
use Rattle.acc_memory.proofs.blocks.Blocks.commit.Goals as goal

pub commit_over-requires-clause-has : goal.commit_over-requires-clause-has
commit_over-requires-clause-has c array cell has = has_seen c.args.self.now c.args.job.now.kernel c.args.job.now.uses
    (record { whole = c.keeps.ensures; held = c.requires.held; distinct = c.keeps-2.ensures.distinct; reached = c.keeps-2.ensures.reached }) array cell has

pub returns-clause-shows : goal.returns-clause-shows
returns-clause-shows c device was shows =
    shows_run c.args.self.now c.args.job.now.kernel c.args.job.now.uses
    (record { whole = c.keeps.ensures; held = c.requires.held; distinct = c.keeps-2.ensures.distinct; reached = c.keeps-2.ensures.reached })
    c.commit_over.new.blocks c.commit_over.ensures.kept c.commit_over.ensures.cells device was shows

pub returns-clause-blocks : goal.returns-clause-blocks
returns-clause-blocks c = c.commit_over.ensures.kept.blocks
