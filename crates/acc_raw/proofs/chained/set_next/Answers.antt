use Rattle.std.proofs.Common.{sym, ◌∙◌, ◌≡◌, ◌-◌, subst, slice_get, slice_set, Some}
use Rattle.acc_raw.specs.inner.Links.{IsAt}
use Rattle.acc_raw.specs.inner.Wired.{next_set, with_next}
use Rattle.acc_raw.proofs.Naming.{next_set_is, next_set_none}
use Rattle.acc_raw.proofs.Places.{at_is, before_is}
use Rattle.acc_raw.proofs.chained.set_next.Goals as goal

pub get_mut-requires : goal.get_mut-requires
get_mut-requires g c =
    let ps = c.args.store.now.links in let i = c.args.index.n in let at = c.in-Some.at in
    subst (λ k. IsAt ps k at.ptr) (sym c.before-in-Some.ensures) (at_is ps (i - 1) at (before_is ps i at (sym c.in-Some.is ∙ c.requires)).1)

pub returns-in-Some : goal.returns-in-Some
returns-in-Some g c =
    let ps = c.args.store.now.links in let i = c.args.index.n in let at = c.in-Some.at in let x = c.get_mut.result.now in let to = c.args.to in
    let b = before_is ps i at (sym c.in-Some.is ∙ c.requires) in let e = c.before-in-Some.ensures in
    subst (λ k. slice_set ps k (with_next to (at.ptr, x)) ≡ next_set ps i to) (sym e)
    (subst (λ k. slice_set ps (i - 1) (with_next to (at.ptr, x)) ≡ next_set ps k to) (sym b.0)
    (next_set_is ps (i - 1) at.ptr x to (subst (λ k. slice_get ps k ≡ Some (at.ptr, x)) e c.get_mut.ensures.value)))

pub returns-in_default : goal.returns-in_default
returns-in_default g c = next_set_none c.args.store.now.links c.args.index.n c.args.to (sym c.in_default.is ∙ c.requires)
