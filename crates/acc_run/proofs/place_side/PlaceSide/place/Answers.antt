use Rattle.acc_run.proofs.PlaceSideSteps.{planned, can_send, accepted_sent, still_accepted}
use Rattle.acc_run.proofs.place_side.PlaceSide.place.Goals as goal

pub send-requires : goal.send-requires
send-requires g c =
    let i = c.self.inside in
    let e = c.in_ok-plan.ensures in
    let p = c.plan.new.self in
    let all = still_accepted i.place p e.config e.history e.counts c.history.ensures.accepted in
    rw e.batch
    (can_send p c.in_ok-plan.plan i.senders.items e.fits.0 all (rw e.plan.0 c.requires.host) (planned i.place p i.senders.items e.config e.history e.counts e.closes c.self.invariant))

pub invariant_of-self-2 : goal.invariant_of-self-2
invariant_of-self-2 g c =
    let i = c.self.inside in
    let e = c.in_ok-plan.ensures in
    let p = c.plan.new.self in
    let all = still_accepted i.place p e.config e.history e.counts c.history.ensures.accepted in
    rw (c.accept.ensures.place, c.in_ok-plan-2.ensures.plan, c.in_ok-plan-2.ensures.sent, e.batch)
    (accepted_sent p c.in_ok-plan.plan i.senders.items e.fits.0 all (planned i.place p i.senders.items e.config e.history e.counts e.closes c.self.invariant))
