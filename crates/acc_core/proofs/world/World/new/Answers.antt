use Rattle.std.proofs.Common.{◌≤◌, length, arith}
use Rattle.std.specs.Prelude.{vec_capacity}
use Rattle.acc_base.specs.declared.config.TheConstants.{MAX_HOSTS}
use Rattle.acc_core.specs.Worlds.{IsWorld, first_state}
use Rattle.acc_core.proofs.HostLaws.{HostLaws}
use Rattle.acc_core.proofs.WorldSteps.{opens}
use Rattle.acc_core.proofs.world.World.new.Goals as goal

pub invariant_of-result : goal.invariant_of-result
invariant_of-result c =
    let config = c.args.config in
    let programs = c.args.programs.items in
    let states = c.in_ok-states.states in
    let few : length programs ≤ MAX_HOSTS = (let limits = c.keeps.ensures.limits in omega (arith, c.requires.count, limits.hosts)) in
    let left = c.in_ok-left.left in
    let enough : length programs ≤ vec_capacity states = omega (arith, c.in_ok-states.ensures.capacity) in
    let left_enough : length programs ≤ vec_capacity left = omega (arith, c.in_ok-left.ensures.capacity) in
    let laws : HostLaws = record { first = c.hosts_follow.ensures.first; steps = c.hosts_follow.ensures.steps; follow = c.hosts_follow.ensures.follow } in
    let world : IsWorld (first_state config programs) states.items (vec_capacity states) left.items (vec_capacity left) =
    opens laws config programs states.items (vec_capacity states) left.items (vec_capacity left) few c.requires.numbered c.in_ok-states.ensures.items enough c.in_ok-left.ensures.items left_enough in
    rw (c.in_ok-accelerator.ensures.opened, c.in_ok-hosts.ensures.hosts) world
