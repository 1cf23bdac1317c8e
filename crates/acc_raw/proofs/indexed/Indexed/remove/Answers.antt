use Rattle.std.proofs.Common.{◌≡◌, ◌-◌, ◌<◌, map, sym, ap, subst, ◌∙◌, remove, slice_get, Some}
use Rattle.acc_raw.specs.declared.segment.Seat.{Seat}
use Rattle.acc_raw.specs.Indices.{up_to}
use Rattle.acc_raw.specs.inner.Links.{IsAt}
use Rattle.acc_raw.specs.inner.Segments.{keys_of, up_to as up_to_seats}
use Rattle.acc_raw.specs.inner.Wired.{place, places, unspliced, values}
use Rattle.acc_raw.proofs.Indexing.{last_at, same_count}
use Rattle.acc_base.proofs.Lists.{map-remove}
use Rattle.acc_raw.proofs.Showing.{value_at}
use Rattle.acc_raw.proofs.Unlinking.{shown-unspliced}
use Rattle.acc_raw.proofs.indexed.Indexed.remove.Goals as goal

pub take_floor-place-requires : goal.take_floor-place-requires
take_floor-place-requires g c =
    subst (λ n. 0 < n) (sym (same_count c.args.key c.self.inside.seats.items)) (subst (λ v. 0 < up_to c.args.key v.keys) (sym c.self.view_is) c.requires)

pub unlink_at-link-requires-clause-there : goal.unlink_at-link-requires-clause-there
unlink_at-link-requires-clause-there g c =
    let ps = c.self.inside.nodes.store.links in let ss = c.self.inside.seats.items in let r = c.take_floor-place.result in
    subst (λ k. IsAt ps k r.ptr) (sym (c.before-index.ensures ∙ ap (λ k. k - 1) c.count_up_to.ensures)) (last_at ps ss c.self.invariant.1 (up_to_seats c.args.key ss) r (sym c.take_floor-place.ensures.place))

pub invariant_of-self : goal.invariant_of-self
invariant_of-self g c =
    let ps = c.self.inside.nodes.store.links in let ss = c.self.inside.seats.items in let l = c.unlink_at-link.result.value in let i = up_to_seats c.args.key ss - 1 in let spot = λ (s : Seat). s.place in (
      c.unlink_at-link.ensures.chained,
      ap (λ l. map spot l) c.take_floor-place.ensures.items ∙ map-remove spot ss i ∙ ap (λ rs. remove rs i) c.self.invariant.1 ∙ sym (shown-unspliced (λ p v. place p) ps i l)
          ∙ ap (λ k. places (unspliced ps k l)) (sym (c.before-index.ensures ∙ ap (λ k. k - 1) c.count_up_to.ensures)) ∙ ap places (sym c.unlink_at-link.ensures.links),
    )

pub returns-clause-node : goal.returns-clause-node
returns-clause-node g c =
    let ps = c.self.inside.nodes.store.links in let ss = c.self.inside.seats.items in let p = c.take_floor-place.result.ptr in let l = c.unlink_at-link.result.value in let key = c.args.key in let i = up_to key (keys_of ss) - 1 in
    let count = c.before-index.ensures ∙ ap (λ k. k - 1) (c.count_up_to.ensures ∙ same_count key ss) in
    ap (λ v. slice_get v.items (up_to key v.keys - 1)) (sym c.self.view_is) ∙ value_at ps i p l (subst (λ k. slice_get ps k ≡ Some (p, l)) count c.unlink_at-link.ensures.value) ∙ ap (λ v. Some v) (sym c.of_link.ensures)

pub returns-clause-items : goal.returns-clause-items
returns-clause-items g c =
    let ps = c.self.inside.nodes.store.links in let ss = c.self.inside.seats.items in let l = c.unlink_at-link.result.value in let key = c.args.key in
    let count = c.before-index.ensures ∙ ap (λ k. k - 1) (c.count_up_to.ensures ∙ same_count key ss) in
    ap values c.unlink_at-link.ensures.links ∙ ap (λ k. values (unspliced ps k l)) count ∙ shown-unspliced (λ p v. v) ps (up_to key (keys_of ss) - 1) l ∙ ap (λ v. remove v.items (up_to key v.keys - 1)) c.self.view_is

pub returns-clause-keys : goal.returns-clause-keys
returns-clause-keys g c =
    let ss = c.self.inside.seats.items in let key = c.args.key in
    ap keys_of c.take_floor-place.ensures.items ∙ map-remove (λ (s : Seat). s.key) ss (up_to_seats key ss - 1) ∙ ap (λ n. remove (keys_of ss) (n - 1)) (same_count key ss) ∙ ap (λ v. remove v.keys (up_to key v.keys - 1)) c.self.view_is
