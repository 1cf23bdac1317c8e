use Rattle.std.proofs.Common.{refl}
use Rattle.acc_core.specs.Worlds.{first_state}
use Rattle.acc_core.proofs.HostLaws.{HostLaws}
use Rattle.acc_core.proofs.LegalSteps.{legal_start, runs_legal}
use Rattle.acc_core.proofs.StandingHosts.{stands_start, runs_stand, AllStand-follow}
use Rattle.acc_core.proofs.laws.runs_are_legal.Goals as goal

pub returns : goal.returns
returns c config programs events replies new numbered runs =
    let laws : HostLaws = record { first = c.hosts_follow.ensures.first; steps = c.hosts_follow.ensures.steps; follow = c.hosts_follow.ensures.follow } in
    let first = first_state config programs in
    let legal = legal_start first refl refl in
    (runs_legal events replies first new legal runs, AllStand-follow laws new (runs_stand laws events replies first new legal (stands_start laws config programs numbered) runs))
