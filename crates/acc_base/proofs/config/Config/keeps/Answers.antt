use Rattle.acc_base.proofs.WithinLimits.{within_limits}
use Rattle.acc_base.proofs.config.Config.keeps.Goals as goal

pub returns-clause-limits : goal.returns-clause-limits
returns-clause-limits c = within_limits c.args.self.now (rw (← c.self.view_is) c.self.invariant)
