use Rattle.std.proofs.Common.{◌≡◌, sym, ap, subst, ◌∙◌, suc, Some, None, add-one}
use Rattle.acc_raw.specs.inner.Links.{Placed, with_at}
use Rattle.acc_raw.specs.inner.Wired.{place_at, place_before}
use Rattle.acc_raw.proofs.Linking.{after-with_at, before-with_at}
use Rattle.acc_raw.proofs.Naming.{place_at-next_set}
use Rattle.acc_raw.proofs.chained.splice.Goals as goal

pub set_next-requires : goal.set_next-requires
set_next-requires g c =
    let n : Placed g.row.T.Denot = (c.put-at.result.ptr, c.args.link.value) in let ps = c.args.store.now.links in let i = c.args.index.n in
    let told : c.put-at.new.self.links ≡ with_at ps i n = subst (λ k. c.put-at.new.self.links ≡ with_at ps k n) c.same.ensures c.put-at.ensures in
    ap (λ l. l.prev) c.deref.ensures ∙ c.requires.between.0 ∙ sym (before-with_at ps i n c.requires.within) ∙ ap (λ qs. place_before None qs i) (sym told)

pub set_prev-requires : goal.set_prev-requires
set_prev-requires g c =
    let n : Placed g.row.T.Denot = (c.put-at.result.ptr, c.args.link.value) in let ps = c.args.store.now.links in let i = c.args.index.n in
    let told : c.put-at.new.self.links ≡ with_at ps i n = subst (λ k. c.put-at.new.self.links ≡ with_at ps k n) c.same.ensures c.put-at.ensures in
    ap (λ l. l.next) c.deref-2.ensures ∙ c.requires.between.1 ∙ sym (after-with_at ps i n c.requires.within) ∙ ap (λ qs. place_at qs (suc i)) (sym told)
    ∙ sym (place_at-next_set c.put-at.new.self.links i (Some c.put-at.result) (suc i)) ∙ ap (λ qs. place_at qs (suc i)) (sym c.set_next.ensures)
    ∙ ap (λ k. place_at c.set_next.new.store.links k) (sym (c.after-behind.ensures ∙ add-one i))
