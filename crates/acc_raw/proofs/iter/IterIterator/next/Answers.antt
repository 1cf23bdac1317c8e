use Rattle.std.proofs.Common.{rules, ◌≡◌, ◌∷◌, sym, ap, subst, ◌∙◌, length, drop, slice_get, Some, None, add-one, arith}
use Rattle.std.proofs.lemmas.Option.{slice_get_within}
use Rattle.acc_raw.specs.inner.Links.{IsAt}
use Rattle.acc_raw.specs.inner.Wired.{place_at, values}
use Rattle.acc_raw.proofs.Places.{at_is}
use Rattle.acc_raw.proofs.Seeking.{drop-at, drop-end}
use Rattle.acc_raw.proofs.Unlinking.{wired_next}
use Rattle.acc_raw.proofs.iter.IterIterator.next.Goals as goal

pub returns-in-None-clause-steps : goal.returns-in-None-clause-steps
returns-in-None-clause-steps g c =
    let ps = c.self.inside.nodes.now.store.links in let n = c.self.inside.index.n in
    let none = sym c.self.view_is ∙ drop-end ps n c.self.invariant.2 (sym c.self.invariant.1 ∙ c.in-None.is) in (none, none)

pub get-link-requires : goal.get-link-requires
get-link-requires g c =
    let ps = c.self.inside.nodes.now.store.links in
    subst (λ k. IsAt ps k c.in-Some.at.ptr) (sym c.same.ensures) (at_is ps c.self.inside.index.n c.in-Some.at (sym c.in-Some.is ∙ c.self.invariant.1))

pub invariant_of-self : goal.invariant_of-self
invariant_of-self g c =
    let ps = c.self.inside.nodes.now.store.links in let n = c.self.inside.index.n in let p = c.in-Some.at.ptr in let l = c.get-link.result.now in
    let told = subst (λ k. slice_get ps k ≡ Some (p, l)) c.same.ensures c.get-link.ensures in
    let next = c.after-behind.ensures ∙ add-one n in let within = slice_get_within ps n (p, l) told in
    (c.self.invariant.0, wired_next None ps n p l c.self.invariant.0.wired told ∙ ap (λ k. place_at ps k) (sym next), omega (arith, within, next))

pub returns-clause-steps : goal.returns-clause-steps
returns-clause-steps g c =
    let ps = c.self.inside.nodes.now.store.links in let n = c.self.inside.index.n in let p = c.in-Some.at.ptr in let l = c.get-link.result.now in
    let told = subst (λ k. slice_get ps k ≡ Some (p, l)) c.same.ensures c.get-link.ensures in
    sym c.self.view_is ∙ drop-at ps n p l told ∙ ap (λ k. l.value ∷ drop k (values ps)) (sym (c.after-behind.ensures ∙ add-one n))

pub returns-clause-goes : goal.returns-clause-goes
returns-clause-goes g c =
    let ps = c.self.inside.nodes.now.store.links in let n = c.self.inside.index.n in let p = c.in-Some.at.ptr in let l = c.get-link.result.now in
    let told = subst (λ k. slice_get ps k ≡ Some (p, l)) c.same.ensures c.get-link.ensures in
    let step : c.args.self.now ≡ l.value ∷ drop c.after-behind.result.n (values ps) =
    sym c.self.view_is ∙ drop-at ps n p l told ∙ ap (λ k. l.value ∷ drop k (values ps)) (sym (c.after-behind.ensures ∙ add-one n)) in
    let shorter = ap length step in search rules
