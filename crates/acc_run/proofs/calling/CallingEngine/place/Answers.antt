use Rattle.acc_run.proofs.CalledTokens.{placed_call}
use Rattle.acc_run.proofs.calling.CallingEngine.place.Goals as goal

pub returns-clause-makes : goal.returns-clause-makes
returns-clause-makes g c =
    let e = c.place_again.ensures in
    rw (← c.self.view_is) (placed_call c.self.inside.token.entries c.place_again.new.token.entries c.args.directive.now c.place_again.result e.noted e.refused e.again)
