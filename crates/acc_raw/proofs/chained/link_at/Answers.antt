use Rattle.std.proofs.Common.{ap, ◌∙◌, Some}
use Rattle.acc_raw.specs.inner.Links.{Placed}
use Rattle.acc_raw.specs.inner.Wired.{end_after}
use Rattle.acc_raw.proofs.Linking.{wired-in}
use Rattle.acc_raw.proofs.chained.link_at.Goals as goal

pub returns-clause-chained : goal.returns-clause-chained
returns-clause-chained g c =
    let ps = c.args.nodes.now.store.links in let i = c.args.index.n in let l = c.args.link.value in let n : Placed g.row.T.Denot = (c.splice-at.result.ptr, l) in
    let h = c.end_after-nodes.ensures ∙ ap (λ x. end_after x.prev (Some c.splice-at.result) c.args.nodes.now.head) c.deref.ensures in
    let t = c.end_after-nodes-2.ensures ∙ ap (λ x. end_after x.next (Some c.splice-at.result) c.args.nodes.now.tail) c.deref-2.ensures in
    rw (h, t, c.splice-at.ensures) (wired-in ps i n c.requires.chained c.requires.within c.requires.between.0 c.requires.between.1)
