use Rattle.std.proofs.Common.{◌≡◌, sym, ap, ◌∙◌}
use Rattle.std.specs.Prelude.{nat_lt}
use Rattle.std.proofs.lemmas.Bool.{ltb-false, ltb-true}
use Rattle.acc_place.specs.Plans.{standing_in}
use Rattle.acc_place.specs.Targets.{queue_by}
use Rattle.acc_place.specs.inner.Judging.{device_by}
use Rattle.acc_place.proofs.AcceptedDirective.{refused_closing, refused_device}
use Rattle.acc_place.proofs.EnteredRanges.{there_device}
use Rattle.acc_place.proofs.StandingIn.{queue_is}
use Rattle.acc_place.proofs.PlaceParts.{seen}
use Rattle.acc_place.proofs.LabelsSound.{by_kind_low}
use Rattle.acc_place.proofs.place.Place.queue_for.Goals as goal

pub returns-then-self-clause-refused : goal.returns-then-self-clause-refused
returns-then-self-clause-refused c =
    let w = c.self.inside in
    rw (← c.self.view_is) (refused_closing w.config (standing_in (seen w)) c.args.host c.args.directive.now (sym c.self.invariant.1.begun ∙ c.if-self.true))

pub returns-then-not-has_device-clause-refused : goal.returns-then-not-has_device-clause-refused
returns-then-not-has_device-clause-refused c =
    let w = c.self.inside in
    let d = c.args.directive.now in
    let past = ltb-false d.device w.config.devices (ap (λ n. nat_lt n w.config.devices) (sym c.device.ensures) ∙ (sym c.has_device.ensures ∙ c.if-not-has_device.true)) in
    let early = sym c.self.invariant.1.begun ∙ c.if-self.false in
    rw (← c.self.view_is) (refused_device w.config (standing_in (seen w)) c.args.host d early past)

pub returns-clause-at : goal.returns-clause-at
returns-clause-at c =
    let w = c.self.inside in
    let d = c.args.directive.now in
    let host = c.args.host in
    let here : c.device_by-device.result ≡ device_by (standing_in (seen w)).regions host d d.kind =
    c.device_by-device.ensures ∙ ap (λ rs. device_by rs host d d.kind) (c.as_slice.ensures.value ∙ sym c.self.invariant.0.tied.inside) in
    rw (← c.self.view_is, c.queue_by.ensures) (ap (λ n. record { device = n; queue = queue_by d.kind d }) here ∙ sym (queue_is (seen w) host d))

pub returns-clause-there : goal.returns-clause-there
returns-clause-there c =
    let w = c.self.inside in
    let d = c.args.directive.now in
    let host = c.args.host in
    let low = ltb-true d.device w.config.devices (ap (λ n. nat_lt n w.config.devices) (sym c.device.ensures) ∙ (sym c.has_device.ensures ∙ c.if-not-has_device.false)) in
    let there = there_device w.config host d d.kind w.regions.items low c.self.invariant.0.tied.there in
    let here : c.device_by-device.result ≡ device_by w.regions.items host d d.kind =
    c.device_by-device.ensures ∙ ap (λ rs. device_by rs host d d.kind) c.as_slice.ensures.value in
    rw (← c.self.view_is, c.queue_by.ensures) ((rw here there, by_kind_low d.kind d))
