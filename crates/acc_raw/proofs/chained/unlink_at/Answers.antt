use Rattle.std.proofs.Common.{ap, ◌∙◌}
use Rattle.acc_raw.specs.inner.Wired.{end_after}
use Rattle.acc_raw.proofs.Unlinking.{wired-out}
use Rattle.acc_raw.proofs.chained.unlink_at.Goals as goal

pub returns-clause-chained : goal.returns-clause-chained
returns-clause-chained g c =
    let ps = c.args.nodes.now.store.links in let i = c.args.index.n in let l = c.unsplice-link.result.value in
    let h = c.end_after-nodes.ensures ∙ ap (λ x. end_after x.prev c.deref-2.result.now.next c.args.nodes.now.head) c.deref.ensures ∙ ap (λ x. end_after l.prev x.next c.args.nodes.now.head) c.deref-2.ensures in
    let t = c.end_after-nodes-2.ensures ∙ ap (λ x. end_after x.next c.deref.result.now.prev c.args.nodes.now.tail) c.deref-2.ensures ∙ ap (λ x. end_after l.next x.prev c.args.nodes.now.tail) c.deref.ensures in
    rw (h, t, c.unsplice-link.ensures.links) (wired-out ps i c.args.at.ptr l c.requires.chained c.unsplice-link.ensures.value)
