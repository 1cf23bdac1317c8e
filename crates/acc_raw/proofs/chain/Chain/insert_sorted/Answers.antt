use Rattle.std.proofs.Common.{ℕ, Bool, ◌≡◌, nat_lt, ap, ◌∙◌, insert}
use Rattle.std.specs.List.{position_or_len}
use Rattle.acc_raw.specs.inner.Links.{Placed}
use Rattle.acc_raw.specs.inner.Wired.{values}
use Rattle.acc_raw.proofs.Linking.{shown-spliced}
use Rattle.acc_raw.proofs.chain.Chain.insert_sorted.Goals as goal

pub returns : goal.returns
returns g c =
    let ps = c.self.inside.nodes.store.links in let n = c.seek-sought.result.index.n in let l = c.deref_mut-2.result.now in
    let new : Placed g.row.T.Denot = (c.link_at.result.ptr, record l { next = c.seek-sought.result.at }) in
    let above : ℕ → g.row.T.Denot → Bool = λ k x. nat_lt k (g.T.Keyed.key_of x) in
    let value : l.value ≡ c.args.node = ap (λ l. l.value) c.deref_mut-2.ensures.value ∙ ap (λ l. l.value) c.deref_mut.ensures.value ∙ c.into_link-link.ensures in
    let key : c.key.result ≡ g.T.Keyed.key_of c.args.node = c.key.ensures ∙ ap (λ l. g.T.Keyed.key_of l.value) c.deref.ensures ∙ ap (λ v. g.T.Keyed.key_of v) c.into_link-link.ensures in
    ap values c.link_at.ensures.links ∙ shown-spliced (λ p v. v) ps n new ∙ ap (λ k. insert (values ps) k l.value) (c.seek-sought.ensures.first ∙ ap (λ k. position_or_len (above k) (values ps)) key)
    ∙ ap (λ vs. insert vs (position_or_len (above (g.T.Keyed.key_of c.args.node)) vs) l.value) c.self.view_is ∙ ap (λ v. insert c.args.self.now (position_or_len (above (g.T.Keyed.key_of c.args.node)) c.args.self.now) v) value
