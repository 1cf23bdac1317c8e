use Rattle.acc_core.proofs.HostLaws.{HostLaws}
use Rattle.acc_core.proofs.StandingHosts.{AllStand-follow}
use Rattle.acc_core.proofs.world.World.into_parts.Goals as goal

pub returns-clause-follow : goal.returns-clause-follow
returns-clause-follow c =
    let is = rw c.self.view_is at c.self.invariant in
    let laws : HostLaws = record { first = c.hosts_follow.ensures.first; steps = c.hosts_follow.ensures.steps; follow = c.hosts_follow.ensures.follow } in
    AllStand-follow laws c.args.self is.stand
