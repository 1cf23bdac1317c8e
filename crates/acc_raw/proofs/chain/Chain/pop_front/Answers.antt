use Rattle.std.proofs.Common.{◌≡◌, ◌∷◌, sym, ap, subst, ◌∙◌, Some, slice_get}
use Rattle.acc_raw.specs.inner.Links.{IsAt}
use Rattle.acc_raw.specs.inner.Wired.{values, unspliced}
use Rattle.acc_raw.proofs.Places.{at_is, none_empty}
use Rattle.acc_raw.proofs.Unlinking.{values-front}
use Rattle.acc_raw.proofs.chain.Chain.pop_front.Goals as goal

pub returns-in-None-clause-none : goal.returns-in-None-clause-none
returns-in-None-clause-none g c =
    let e = sym c.self.view_is ∙ ap values (none_empty c.self.inside.nodes.store.links c.self.invariant c.in-None.is) in (e, e)

pub unlink_at-link-requires-clause-there : goal.unlink_at-link-requires-clause-there
unlink_at-link-requires-clause-there g c =
    let ps = c.self.inside.nodes.store.links in
    subst (λ k. IsAt ps k c.in-Some.at.ptr) (sym c.of.ensures) (at_is ps 0 c.in-Some.at (sym c.in-Some.is ∙ c.self.invariant.first))

pub returns-clause-some : goal.returns-clause-some
returns-clause-some g c =
    let ps = c.self.inside.nodes.store.links in let l = c.unlink_at-link.result.value in let at = c.in-Some.at.ptr in
    let e = subst (λ k. slice_get ps k ≡ Some (at, l)) c.of.ensures c.unlink_at-link.ensures.value in
    sym c.self.view_is ∙ values-front ps at l e ∙ ap (λ k. l.value ∷ values (unspliced ps k l)) (sym c.of.ensures) ∙ ap (λ qs. l.value ∷ values qs) (sym c.unlink_at-link.ensures.links)
    ∙ ap (λ v. v ∷ values c.unlink_at-link.new.nodes.store.links) (sym c.of_link.ensures)
