use Rattle.acc_run.proofs.CalledTokens.{seen_call}
use Rattle.acc_run.proofs.calling.CallingEngine.wait_for.Goals as goal

pub returns-clause-makes : goal.returns-clause-makes
returns-clause-makes g c =
    rw (← c.self.view_is) (seen_call c.self.inside.token.entries c.wait_for.new.token.entries c.args.device c.args.counts c.in_ok-wait_for.ensures.noted)
