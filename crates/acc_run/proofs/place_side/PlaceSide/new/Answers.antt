use Rattle.acc_run.proofs.PlaceSideSteps.{first_side}
use Rattle.acc_run.proofs.place_side.PlaceSide.new.Goals as goal

pub invariant_of-result : goal.invariant_of-result
invariant_of-result c =
    let p = c.in_ok-place.ensures in
    first_side c.in_ok-place.place c.args.senders.items p.history (λ at there. p.closes at (rw p.config at there)) (rw (← p.config) at c.requires.ends)
