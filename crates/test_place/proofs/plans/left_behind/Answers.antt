use Rattle.test_place.proofs.plans.left_behind.Goals as goal

pub fits-requires-3 : goal.fits-requires-3
fits-requires-3 g c =
    let laws = c.plans_are_kept.ensures in
    let one = c.in_ok-one.one in
    let other = c.in_ok-other.ensures in
    let beside = laws.planned c.plan.new.self c.plan-2.new.self one other.config other.history other.counts other.roomy c.in_ok-one.ensures.fits.1 in
    rw c.accept.ensures.place (laws.accepted c.plan-2.new.self one c.in_ok-other.other beside)

pub returns : goal.returns
returns g c =
    let laws = c.plans_are_kept.ensures in
    let one = c.in_ok-one.one in
    let other = c.in_ok-other.ensures in
    let beside = laws.planned c.plan.new.self c.plan-2.new.self one other.config other.history other.counts other.roomy c.in_ok-one.ensures.fits.1 in
    rw c.accept.ensures.place (laws.accepted c.plan-2.new.self one c.in_ok-other.other beside)
