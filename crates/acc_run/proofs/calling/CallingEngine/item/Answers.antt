use Rattle.acc_run.proofs.CalledTokens.{item_call}
use Rattle.acc_run.proofs.calling.CallingEngine.item.Goals as goal

pub returns-clause-makes : goal.returns-clause-makes
returns-clause-makes g c =
    let e = c.item.ensures in
    rw (← c.self.view_is) (item_call c.self.inside.token.entries c.item.new.token.entries c.args.item c.item.result e.noted e.refused e.fault)
