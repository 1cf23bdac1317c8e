use Rattle.std.proofs.Common.{◌≡◌, length, ap, ◌∙◌}
use Rattle.std.proofs.lemmas.Bool.{eqb-true}
use Rattle.std.proofs.lemmas.List.{length-reverse}
use Rattle.acc_place.proofs.StandingIn.{still_fits}
use Rattle.acc_place.proofs.plan.Plan.fits.Goals as goal

pub returns-clause-fits : goal.returns-clause-fits
returns-clause-fits c = λ yes.
    let p = c.args.place.now in
    let same : c.self.inside.stamp ≡ length c.history.result.now = eqb-true c.self.inside.stamp (length c.history.result.now) yes in
    let stamp : c.args.self.now.stamp ≡ length p.history = rw (← c.self.view_is) (same ∙ (ap length c.history.ensures.history ∙ length-reverse p.history)) in
    still_fits p c.args.self.now c.requires stamp
