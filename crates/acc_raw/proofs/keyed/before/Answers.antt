use Rattle.std.proofs.Common.{◌≡◌, sym, subst, ◌∙◌, None, Some, slice_get}
use Rattle.acc_raw.specs.inner.Links.{IsAt}
use Rattle.acc_raw.proofs.Places.{at_is, before_end}
use Rattle.acc_raw.proofs.Unlinking.{wired_prev}
use Rattle.acc_raw.proofs.keyed.before.Goals as goal

pub get-requires : goal.get-requires
get-requires g c =
    let ps = c.args.nodes.now.store.links in let at = c.in-Some.place in
    subst (λ k. IsAt ps k at.ptr) (sym c.same.ensures) (at_is ps c.args.sought.now.index.n at (sym c.in-Some.is ∙ c.requires.place.0))

pub returns-in-Some : goal.returns-in-Some
returns-in-Some g c =
    let ps = c.args.nodes.now.store.links in let p = c.in-Some.place.ptr in let l = c.get.result.now in
    wired_prev None ps c.args.sought.now.index.n p l c.requires.chained.wired (subst (λ k. slice_get ps k ≡ Some (p, l)) c.same.ensures c.get.ensures)

pub returns-in-None : goal.returns-in-None
returns-in-None g c = before_end c.args.nodes.now.store.links c.args.sought.now.index.n c.requires.chained c.requires.place.1 (sym c.requires.place.0 ∙ c.in-None.is)
