use Rattle.std.proofs.Common.{◌≡◌, sym, ap, ◌∙◌, map, insert, None, arith}
use Rattle.acc_raw.specs.declared.segment.Seat.{Seat}
use Rattle.acc_raw.specs.Indices.{up_to}
use Rattle.acc_raw.specs.inner.Links.{Placed}
use Rattle.acc_raw.specs.inner.Segments.{keys_of, up_to as up_to_seats}
use Rattle.acc_raw.specs.inner.Wired.{place, place_before, places, spliced, values}
use Rattle.acc_raw.proofs.Indexing.{count_within, last_names, many_seats, same_count}
use Rattle.acc_raw.proofs.Linking.{shown-spliced}
use Rattle.acc_base.proofs.Lists.{map-insert}
use Rattle.acc_raw.proofs.indexed.Indexed.insert.Goals as goal

pub behind-requires-clause-within : goal.behind-requires-clause-within
behind-requires-clause-within g c =
    let ps = c.self.inside.nodes.store.links in let ss = c.self.inside.seats.items in let many = many_seats ps ss c.self.invariant.1 in let within = count_within c.args.key ss in
    omega (arith, c.count_up_to-count.ensures, many, within)

pub behind-requires-clause-prev : goal.behind-requires-clause-prev
behind-requires-clause-prev g c =
    let ps = c.self.inside.nodes.store.links in let ss = c.self.inside.seats.items in
    ap (λ l. l.prev) c.deref.ensures ∙ c.floor.ensures ∙ last_names ps ss c.self.invariant.1 (up_to_seats c.args.key ss) ∙ ap (λ k. place_before None ps k) (sym c.count_up_to-count.ensures)

pub link_at-place-requires-clause-between : goal.link_at-place-requires-clause-between
link_at-place-requires-clause-between g c =
    let ps = c.self.inside.nodes.store.links in let ss = c.self.inside.seats.items in (
      ap (λ l. l.prev) c.deref_mut-2.ensures.value ∙ c.floor.ensures ∙ last_names ps ss c.self.invariant.1 (up_to_seats c.args.key ss) ∙ ap (λ k. place_before None ps k) (sym c.count_up_to-count.ensures),
      c.behind.ensures,
    )

pub link_at-place-requires-clause-within : goal.link_at-place-requires-clause-within
link_at-place-requires-clause-within g c =
    let ps = c.self.inside.nodes.store.links in let ss = c.self.inside.seats.items in let many = many_seats ps ss c.self.invariant.1 in let within = count_within c.args.key ss in
    omega (arith, c.count_up_to-count.ensures, many, within)

pub invariant_of-self : goal.invariant_of-self
invariant_of-self g c =
    let ps = c.self.inside.nodes.store.links in let ss = c.self.inside.seats.items in let p = c.link_at-place.result in let spot = λ (s : Seat). s.place in let i = up_to_seats c.args.key ss in
    let n : Placed g.row.T.Denot = (p.ptr, record c.deref_mut-2.result.now { next = c.behind.result }) in let seat : Seat = record { key = c.args.key; place = p } in (
      c.link_at-place.ensures.chained,
      ap (λ l. map spot l) c.insert.ensures.items ∙ map-insert spot ss i seat ∙ ap (λ rs. insert rs i p) c.self.invariant.1 ∙ sym (shown-spliced (λ p v. place p) ps i n)
          ∙ ap (λ k. places (spliced ps k n)) (sym c.count_up_to-count.ensures) ∙ ap places (sym c.link_at-place.ensures.links),
    )

pub returns-clause-items : goal.returns-clause-items
returns-clause-items g c =
    let ps = c.self.inside.nodes.store.links in let ss = c.self.inside.seats.items in let l = c.deref_mut-2.result.now in let key = c.args.key in let i = up_to key (keys_of ss) in
    let n : Placed g.row.T.Denot = (c.link_at-place.result.ptr, record l { next = c.behind.result }) in
    let value : l.value ≡ c.args.node = ap (λ l. l.value) c.deref_mut-2.ensures.value ∙ ap (λ l. l.value) c.deref_mut.ensures.value ∙ c.into_link-link.ensures in
    ap values c.link_at-place.ensures.links ∙ ap (λ k. values (spliced ps k n)) (c.count_up_to-count.ensures ∙ same_count key ss) ∙ shown-spliced (λ p v. v) ps i n
    ∙ ap (λ v. insert v.items (up_to key v.keys) l.value) c.self.view_is ∙ ap (λ x. insert c.args.self.now.items (up_to key c.args.self.now.keys) x) value

pub returns-clause-keys : goal.returns-clause-keys
returns-clause-keys g c =
    let ss = c.self.inside.seats.items in let key = c.args.key in let seat : Seat = record { key = key; place = c.link_at-place.result } in
    ap keys_of c.insert.ensures.items ∙ map-insert (λ (s : Seat). s.key) ss (up_to_seats key ss) seat ∙ ap (λ n. insert (keys_of ss) n key) (same_count key ss) ∙ ap (λ v. insert v.keys (up_to key v.keys) key) c.self.view_is
