use Rattle.std.proofs.Common.{◌-◌, sym, ap, subst, ◌∙◌, length, slice_get}
use Rattle.acc_raw.specs.inner.Links.{IsAt}
use Rattle.acc_raw.specs.inner.Wired.{values}
use Rattle.acc_raw.proofs.Places.{at_is, before_is, between_end, none_before_end}
use Rattle.acc_raw.proofs.Showing.{length-values, value_at}
use Rattle.acc_raw.proofs.chain.Chain.last.Goals as goal

pub get-requires : goal.get-requires
get-requires g c =
    let ps = c.self.inside.nodes.store.links in let at = c.in-Some.at in
    let index = c.before-index.ensures ∙ ap (λ k. k - 1) c.count.ensures in
    subst (λ k. IsAt ps k at.ptr) (sym index) (at_is ps (length ps - 1) at (before_is ps (length ps) at (sym c.in-Some.is ∙ (between_end ps c.self.invariant).0)).1)

pub returns : goal.returns
returns g c =
    let ps = c.self.inside.nodes.store.links in
    let index = c.before-index.ensures ∙ ap (λ k. k - 1) (c.count.ensures ∙ sym (length-values ps)) in
    sym (value_at ps c.before-index.result.n c.in-Some.at.ptr c.get.result.now c.get.ensures)
    ∙ ap (λ k. slice_get (values ps) k) index ∙ ap (λ vs. slice_get vs (length vs - 1)) c.self.view_is

pub returns-in-None : goal.returns-in-None
returns-in-None g c =
    let ps = c.self.inside.nodes.store.links in
    let none = none_before_end ps (sym (between_end ps c.self.invariant).0 ∙ c.in-None.is) in
    sym (ap (λ qs. slice_get (values qs) (length (values qs) - 1)) none) ∙ ap (λ vs. slice_get vs (length vs - 1)) c.self.view_is
