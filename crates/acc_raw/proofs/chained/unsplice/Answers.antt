use Rattle.std.proofs.Common.{◌≡◌, sym, ap, subst, ◌∙◌, None, Some, slice_get}
use Rattle.std.proofs.lemmas.Option.{slice_get_within}
use Rattle.acc_raw.specs.inner.Links.{Placed, IsAt, without}
use Rattle.acc_raw.specs.inner.Wired.{place_at, place_before}
use Rattle.acc_raw.proofs.Naming.{place_at-next_set}
use Rattle.acc_raw.proofs.Unlinking.{after-without, before-without, wired_next, wired_prev}
use Rattle.acc_raw.proofs.chained.unsplice.Goals as goal

pub take-link-requires : goal.take-link-requires
take-link-requires g c = subst (λ k. IsAt c.args.store.now.links k c.args.at.ptr) (sym c.same.ensures) c.requires.there

pub set_next-requires : goal.set_next-requires
set_next-requires g c =
    let ps = c.args.store.now.links in let i = c.args.index.n in let l = c.take-link.result.value in let n : Placed g.row.T.Denot = (c.args.at.ptr, l) in
    let e : slice_get ps i ≡ Some n = subst (λ k. slice_get ps k ≡ Some n) c.same.ensures c.take-link.ensures.value in
    let rest : c.take-link.new.self.links ≡ without ps i = subst (λ k. c.take-link.new.self.links ≡ without ps k) c.same.ensures c.take-link.ensures.rest in
    subst (λ k. c.deref.result.now.prev ≡ place_before None c.take-link.new.self.links k) (sym c.same-2.ensures)
    (ap (λ l. l.prev) c.deref.ensures ∙ wired_prev None ps i c.args.at.ptr l c.requires.wired e ∙ sym (before-without ps i (slice_get_within ps i n e)) ∙ ap (λ qs. place_before None qs i) (sym rest))

pub set_prev-requires : goal.set_prev-requires
set_prev-requires g c =
    let ps = c.args.store.now.links in let i = c.args.index.n in let l = c.take-link.result.value in let n : Placed g.row.T.Denot = (c.args.at.ptr, l) in let to = c.deref-2.result.now.next in
    let e : slice_get ps i ≡ Some n = subst (λ k. slice_get ps k ≡ Some n) c.same.ensures c.take-link.ensures.value in
    let rest : c.take-link.new.self.links ≡ without ps i = subst (λ k. c.take-link.new.self.links ≡ without ps k) c.same.ensures c.take-link.ensures.rest in
    ap (λ l. l.next) c.deref-2.ensures ∙ wired_next None ps i c.args.at.ptr l c.requires.wired e ∙ sym (after-without ps i (slice_get_within ps i n e)) ∙ ap (λ qs. place_at qs i) (sym rest)
    ∙ sym (place_at-next_set c.take-link.new.self.links c.same-2.result.n to i) ∙ ap (λ qs. place_at qs i) (sym c.set_next.ensures)
