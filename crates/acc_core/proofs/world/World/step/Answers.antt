use Rattle.std.proofs.Common.{◌≡◌, ◌<◌, ◌≤◌, length, refl, ◌∙◌, arith, Some}
use Rattle.std.specs.Prelude.{slice_get, slice_set}
use Rattle.std.proofs.lemmas.List.{length-set}
use Rattle.std.proofs.lemmas.Option.{slice_get_past, slice_get_read}
use Rattle.acc_host.specs.declared.event.Event.TheVariants as event
use Rattle.acc_core.specs.Machine.{Step}
use Rattle.acc_core.proofs.HostLaws.{HostLaws}
use Rattle.acc_core.proofs.HostSteps.{host_steps, no_host}
use Rattle.acc_core.proofs.StandingHosts.{stands_at}
use Rattle.acc_core.proofs.WorldSteps.{closes_world, still_world, takes, performs}
use Rattle.acc_core.proofs.world.World.step.Goals as goal

pub next-requires : goal.next-requires
next-requires c =
    let hosts = c.self.inside.hosts.items in
    let host = c.index_mut.result.now in
    let within : c.from-index.result < length hosts = omega arith in
    let here : slice_get hosts c.from-index.result ≡ Some host = slice_get_read hosts (length hosts) c.from-index.result host refl within c.index_mut.ensures.value in
    let at = stands_at (record c.self.inside.accelerator { hosts = hosts }) 0 c.from-index.result c.from-index.result hosts host (omega arith) here c.self.invariant.stand in
    omega (arith, at.0, within, c.self.invariant.few_hosts)

-- the host's step is the machine's
goes_on : (c : goal.After-self-1) → Step (record c.self.inside.accelerator { hosts = c.self.inside.hosts.items }) (event.Host c.in-Host.number) c.next.result (record c.next.new.engine { hosts = slice_set c.self.inside.hosts.items c.from-index.result c.next.new.self })
goes_on c =
    let hosts = c.self.inside.hosts.items in
    let host = c.index_mut.result.now in
    let number = c.in-Host.number in
    let same : c.from-index.result ≡ number = c.from-index.ensures ∙ c.number.ensures in
    let within : c.from-index.result < length hosts = omega arith in
    let here : slice_get hosts c.from-index.result ≡ Some host = slice_get_read hosts (length hosts) c.from-index.result host refl within c.index_mut.ensures.value in
    let at = stands_at (record c.self.inside.accelerator { hosts = hosts }) 0 c.from-index.result c.from-index.result hosts host (omega arith) here c.self.invariant.stand in
    let there : slice_get hosts number ≡ Some host = rw (← same) here in
    rw same (host_steps c.self.inside.accelerator c.next.new.engine hosts number host c.next.new.self c.next.result there (at.0 ∙ same) c.next.ensures.steps)

pub invariant_of-self : goal.invariant_of-self
invariant_of-self c =
    let hosts = c.self.inside.hosts.items in
    let laws : HostLaws = record { first = c.hosts_follow.ensures.first; steps = c.hosts_follow.ensures.steps; follow = c.hosts_follow.ensures.follow } in
    still_world laws (record c.self.inside.accelerator { hosts = hosts }) _ (event.Host c.in-Host.number) c.next.result _ _ _ _ c.self.invariant (length-set hosts c.from-index.result c.next.new.self) (goes_on c)

pub invariant_of-self-in-Take : goal.invariant_of-self-in-Take
invariant_of-self-in-Take c =
    let hosts = c.self.inside.hosts.items in
    let laws : HostLaws = record { first = c.hosts_follow.ensures.first; steps = c.hosts_follow.ensures.steps; follow = c.hosts_follow.ensures.follow } in
    still_world laws (record c.self.inside.accelerator { hosts = hosts }) (record c.take.new.self { hosts = hosts }) (event.Take c.in-Take.at) c.take.result _ _ _ _ c.self.invariant refl
    (takes c.self.inside.accelerator c.take.new.self hosts c.in-Take.at c.take.result c.take.ensures)

pub invariant_of-self-in-Perform : goal.invariant_of-self-in-Perform
invariant_of-self-in-Perform c =
    let hosts = c.self.inside.hosts.items in
    let laws : HostLaws = record { first = c.hosts_follow.ensures.first; steps = c.hosts_follow.ensures.steps; follow = c.hosts_follow.ensures.follow } in
    still_world laws (record c.self.inside.accelerator { hosts = hosts }) (record c.perform.new.self { hosts = hosts }) (event.Perform c.in-Perform.at) c.perform.result _ _ _ _ c.self.invariant refl
    (performs c.self.inside.accelerator c.perform.new.self hosts c.in-Perform.at c.perform.result c.perform.ensures)

pub invariant_of-self-in-Close : goal.invariant_of-self-in-Close
invariant_of-self-in-Close c =
    let hosts = c.self.inside.hosts.items in
    let laws : HostLaws = record { first = c.hosts_follow.ensures.first; steps = c.hosts_follow.ensures.steps; follow = c.hosts_follow.ensures.follow } in
    still_world laws (record c.self.inside.accelerator { hosts = hosts }) (record c.close.new.self { hosts = hosts }) event.Close c.close.result _ _ _ _ c.self.invariant refl
    (closes_world c.self.inside.accelerator c.close.new.self hosts c.close.result c.close.ensures)

pub returns-in-Close : goal.returns-in-Close
returns-in-Close c =
    let hosts = c.self.inside.hosts.items in
    rw (← c.self.view_is, c.in-Close.is) (closes_world c.self.inside.accelerator c.close.new.self hosts c.close.result c.close.ensures)

pub returns-then-index-len : goal.returns-then-index-len
returns-then-index-len c = rw (← c.self.view_is, c.in-Host.is) (goes_on c)

pub returns-else-index-len : goal.returns-else-index-len
returns-else-index-len c =
    let hosts = c.self.inside.hosts.items in
    let same : c.from-index.result ≡ c.in-Host.number = c.from-index.ensures ∙ c.number.ensures in
    let past : length hosts ≤ c.in-Host.number = omega arith in
    rw (← c.self.view_is, c.in-Host.is) (no_host (record c.self.inside.accelerator { hosts = hosts }) c.in-Host.number (slice_get_past hosts c.in-Host.number past))
