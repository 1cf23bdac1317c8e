use Rattle.std.proofs.Common.{◌≡◌, ◌-◌, suc, sym, ap, subst, ◌∙◌, slice_set}
use mathlib.Core.Logic.{inr}
use Rattle.acc_raw.specs.Indices.{last_of, up_to, with_value}
use Rattle.acc_raw.specs.inner.Links.{IsAt}
use Rattle.acc_raw.specs.inner.Segments.{keys_of, up_to as up_to_seats}
use Rattle.acc_raw.specs.inner.Wired.{values}
use Rattle.acc_raw.proofs.Changing.{ends_same, values-other, wired-other}
use Rattle.acc_raw.proofs.Indexing.{last_at, none_last, places-other, same_count, some_before, viewed}
use Rattle.acc_raw.proofs.Showing.{value_at}
use Rattle.acc_raw.proofs.indexed.Indexed.floor_mut.Goals as goal

pub get_mut-link-requires : goal.get_mut-link-requires
get_mut-link-requires g c =
    let ps = c.self.inside.nodes.store.links in let ss = c.self.inside.seats.items in let p = c.in-Some.place in let n = up_to_seats c.args.key ss in
    let floor = rw c.seek.ensures at c.floor.ensures in let count = rw c.seek.ensures at c.count_up_to.ensures in
    subst (λ k. IsAt ps k p.ptr) (sym (c.before-index.ensures ∙ ap (λ k. k - 1) count)) (last_at ps ss c.self.invariant.1 n p (sym c.in-Some.is ∙ floor))

pub invariant_of-self-lent : goal.invariant_of-self-lent
invariant_of-self-lent g c = λ w.
    let ps = c.self.inside.nodes.store.links in let p = c.in-Some.place.ptr in let l = c.get_mut-link.result.now in let i = c.before-index.result.n in let e = c.get_mut-link.ensures.value in
    (wired-other p l w ps i e c.self.invariant.0, rw c.seek.ensures (c.self.invariant.1 ∙ sym (places-other ps i p l w e)))

pub returns-in-Some : goal.returns-in-Some
returns-in-Some g c =
    let ps = c.self.inside.nodes.store.links in let ss = c.self.inside.seats.items in let p = c.in-Some.place.ptr in let l = c.get_mut-link.result.now in let key = c.args.key in let room = c.self.inside.seats.room in
    let n = up_to_seats key ss in let i = c.before-index.result.n in let e = c.get_mut-link.ensures.value in
    let floor = rw c.seek.ensures at c.floor.ensures in let told = rw c.seek.ensures at c.count_up_to.ensures in
    let count : i ≡ up_to key (keys_of ss) - 1 = c.before-index.ensures ∙ ap (λ k. k - 1) (told ∙ same_count key ss) in
    let there : up_to key (keys_of ss) ≡ suc i =
    sym (same_count key ss) ∙ some_before ps ss c.self.invariant.1 n c.in-Some.place (sym c.in-Some.is ∙ floor) ∙ ap suc (sym (c.before-index.ensures ∙ ap (λ k. k - 1) told)) in
    rw c.seek.ensures (
      ends_same (λ w. ap (λ vs. viewed vs (keys_of ss) room) (values-other p l w ps i e ∙ ap (λ k. slice_set (values ps) k w) count) ∙ ap (λ v. with_value v (up_to key v.keys - 1) w) c.self.view_is),
      record {
        value = sym (value_at ps i p l e) ∙ ap (λ k. last_of (values ps) k) (sym there) ∙ ap (λ v. last_of v.items (up_to key v.keys)) c.self.view_is;
        writes_back = tt;
      },
    )

pub returns-in-None : goal.returns-in-None
returns-in-None g c =
    let ps = c.self.inside.nodes.store.links in let ss = c.self.inside.seats.items in let key = c.args.key in let floor = rw c.seek.ensures at c.floor.ensures in
    rw c.seek.ensures (
      ap inr c.self.view_is,
      record {
        value = sym (none_last ps ss c.self.invariant.1 c.self.invariant.0 key (sym floor ∙ c.in-None.is)) ∙ ap (λ v. last_of v.items (up_to key v.keys)) c.self.view_is;
        writes_back = tt;
      },
    )
