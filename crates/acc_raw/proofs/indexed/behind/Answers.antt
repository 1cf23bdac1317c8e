use Rattle.std.proofs.Common.{◌≡◌, ◌-◌, sym, ap, subst, ◌∙◌, slice_get, Some, None}
use Rattle.acc_raw.specs.inner.Links.{IsAt}
use Rattle.acc_raw.specs.inner.Wired.{place_at}
use Rattle.acc_raw.proofs.Indexing.{none_before}
use Rattle.acc_raw.proofs.Places.{at_is, before_is}
use Rattle.acc_raw.proofs.Unlinking.{wired_next}
use Rattle.acc_raw.proofs.indexed.behind.Goals as goal

pub get-requires : goal.get-requires
get-requires g c =
    let ps = c.args.nodes.now.store.links in let n = c.args.index.now.n in let at = c.in-Some.at in
    subst (λ k. IsAt ps k at.ptr) (sym c.before-in-Some.ensures) (at_is ps (n - 1) at (before_is ps n at (sym c.in-Some.is ∙ c.requires.prev)).1)

pub returns-in-Some : goal.returns-in-Some
returns-in-Some g c =
    let ps = c.args.nodes.now.store.links in let n = c.args.index.now.n in let at = c.in-Some.at in let l = c.get.result.now in
    let told = subst (λ k. slice_get ps k ≡ Some (at.ptr, l)) c.before-in-Some.ensures c.get.ensures in
    wired_next None ps (n - 1) at.ptr l c.requires.chained.wired told ∙ ap (λ k. place_at ps k) (sym (before_is ps n at (sym c.in-Some.is ∙ c.requires.prev)).0)

pub returns-in-None : goal.returns-in-None
returns-in-None g c =
    let ps = c.args.nodes.now.store.links in
    c.requires.chained.first ∙ ap (λ k. place_at ps k) (sym (none_before ps c.args.index.now.n c.requires.within (sym c.in-None.is ∙ c.requires.prev)))
