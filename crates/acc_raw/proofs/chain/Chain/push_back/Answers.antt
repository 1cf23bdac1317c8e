use Rattle.std.proofs.Common.{◌≡◌, ◌++◌, ◌∷◌, [], sym, ap, ◌∙◌, None}
use Rattle.acc_raw.specs.inner.Links.{Placed}
use Rattle.acc_raw.specs.inner.Wired.{values, spliced, place_at, place_before}
use Rattle.acc_raw.proofs.Linking.{values-end}
use Rattle.acc_raw.proofs.Places.{between_end}
use Rattle.acc_raw.proofs.chain.Chain.push_back.Goals as goal

pub link_at-requires-clause-between : goal.link_at-requires-clause-between
link_at-requires-clause-between g c =
    let ps = c.self.inside.nodes.store.links in let b = between_end ps c.self.invariant in let at = c.count-end.ensures in
    (ap (λ l. l.prev) c.deref_mut-2.ensures.value ∙ b.0 ∙ ap (λ k. place_before None ps k) (sym at), b.1 ∙ ap (λ k. place_at ps k) (sym at))

pub returns : goal.returns
returns g c =
    let ps = c.self.inside.nodes.store.links in let l = c.deref_mut-2.result.now in
    let n : Placed g.row.T.Denot = (c.link_at.result.ptr, record l { next = None }) in
    let value : l.value ≡ c.args.node = ap (λ l. l.value) c.deref_mut-2.ensures.value ∙ ap (λ l. l.value) c.deref_mut.ensures.value ∙ c.into_link-link.ensures in
    ap values c.link_at.ensures.links ∙ ap (λ k. values (spliced ps k n)) c.count-end.ensures ∙ values-end ps n
    ∙ ap (λ xs. xs ++ l.value ∷ []) c.self.view_is ∙ ap (λ v. c.args.self.now ++ v ∷ []) value
