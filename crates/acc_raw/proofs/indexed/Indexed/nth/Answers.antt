use Rattle.std.proofs.Common.{◌≡◌, sym, ap, subst, ◌∙◌, slice_get, Some}
use Rattle.acc_raw.specs.inner.Links.{IsAt}
use Rattle.acc_raw.proofs.Indexing.{seat_names}
use Rattle.acc_raw.proofs.Places.{at_is}
use Rattle.acc_raw.proofs.Showing.{none_at, value_at}
use Rattle.acc_raw.proofs.indexed.Indexed.nth.Goals as goal

pub get-requires : goal.get-requires
get-requires g c =
    let ps = c.self.inside.nodes.store.links in let ss = c.self.inside.seats.items in let p = c.in-Some.place in
    subst (λ k. IsAt ps k p.ptr) (sym c.of.ensures) (at_is ps c.args.at p (sym c.in-Some.is ∙ c.nth.ensures ∙ seat_names ps ss c.self.invariant.1 c.args.at))

pub returns-in-Some : goal.returns-in-Some
returns-in-Some g c =
    let ps = c.self.inside.nodes.store.links in let p = c.in-Some.place.ptr in let l = c.get.result.now in
    sym (ap (λ v. slice_get v.items c.args.at) (sym c.self.view_is) ∙ value_at ps c.args.at p l (subst (λ k. slice_get ps k ≡ Some (p, l)) c.of.ensures c.get.ensures))

pub returns-in-None : goal.returns-in-None
returns-in-None g c =
    let ps = c.self.inside.nodes.store.links in let ss = c.self.inside.seats.items in
    sym (none_at ps c.args.at (sym (seat_names ps ss c.self.invariant.1 c.args.at) ∙ sym c.nth.ensures ∙ c.in-None.is)) ∙ ap (λ v. slice_get v.items c.args.at) c.self.view_is
