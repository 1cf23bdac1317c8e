use Rattle.std.proofs.Common.{inl, inr, ◌≡◌, ℕ, sym, subst, slice_get, ◌∙◌}
use Rattle.acc_host.specs.Hosts.{Adds, state_of, wants}
use Rattle.acc_host.specs.declared.state.HostState.TheVariants as state
use Rattle.acc_run.specs.Calling.{listed}
use Rattle.acc_run.proofs.GoingHosts.{goes_on, has_gone, next_goes}
use Rattle.acc_run.proofs.calling.step_all.Goals as goal

pub loop-preserved : goal.loop-preserved
loop-preserved g c =
    let s = c.next-in-Running.ensures.steps in
    let k = c.next-in-Running.ensures.keeps in
    let i = c.loop.invariant in
    let host = c.loop.host in
    let mid = c.loop.calling in
    let later = c.next-in-Running.new.engine in
    let devices = c.args.calling.now.devices in
    let on = next_goes mid.devices host.ids host.phase (slice_get host.statements host.ended) mid later host.host s.goes s.asks in
    let adds = subst (λ (d : ℕ). Adds (wants d host) s.goes (listed mid host.host) (listed later host.host)) i.devices s.adds in
    let mine : mid.host ≡ host.host = i.host ∙ (c.requires.token ∙ sym i.going.same_host) in
    let later_mine : later.host ≡ host.host = k.still_serves host.host mine in
    record {
      devices = k.same_devices ∙ i.devices;
      host = later_mine ∙ (sym mine ∙ i.host);
      going = goes_on c.hosts_follow.ensures.steps devices c.args.host.now c.args.calling.now.entries host mid s.goes c.next-in-Running.new.self later mine later_mine i.going adds on s.host_is;
    }

pub returns-in-Finished : goal.returns-in-Finished
returns-in-Finished g c =
    let devices = c.args.calling.now.devices in
    let stopped : (ended : ℕ) → state_of c.loop.host ≡ state.Running ended → ⊥ = λ ended e.
    elim c.in-Finished.is [
      | inl finished ↦ (let w : state.Finished ≡ state.Running ended = sym finished ∙ (c.state.ensures ∙ e) in cc)
      | inr refused ↦ (let w : state.Refused refused.0 refused.1 refused.2 ≡ state.Running ended = sym refused.3 ∙ (c.state.ensures ∙ e) in cc)
    ] in
    record { host = c.loop.invariant.host; went = has_gone c.hosts_follow.ensures.follow devices c.args.host.now c.args.calling.now.entries c.loop.host c.loop.calling.entries c.loop.invariant.going stopped }
