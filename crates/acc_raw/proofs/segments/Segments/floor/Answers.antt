use Rattle.std.proofs.Common.{◌≡◌, ◌+◌, ◌-◌, suc, refl, sym, ap, ◌∙◌, length, take, get_or, slice_get, Some, arith}
use Rattle.std.specs.Option.{option_map}
use Rattle.std.proofs.lemmas.Option.{slice_get_read}
use Rattle.acc_raw.specs.declared.segment.Seat.{Seat}
use Rattle.acc_raw.specs.declared.segment.Segment.{Segment}
use Rattle.acc_raw.specs.Indices.{last_of}
use Rattle.acc_raw.specs.inner.Segments.{SeatsView, seats_of, up_to}
use Rattle.acc_raw.proofs.Searching.{own_is}
use Rattle.acc_raw.proofs.Segmenting.{seat_at}
use Rattle.acc_raw.proofs.segments.Segments.floor.Goals as goal

pub returns : goal.returns
returns c =
    let ss = c.self.inside.shelf.filled.items in let spot = c.seek-spot.ensures.spot in let i = c.seek-spot.result.segment in let at = c.seek-spot.result.at in let own = spot.own in let x = c.index-2.result.now in
    let before = length (seats_of (take i ss)) in let key = c.args.key in
    let same = own_is ss i own c.index.result.now spot.there c.index.ensures in
    let many = ap (λ (s : Segment). length s.seats.items) same in
    let told : slice_get own.seats.items (at - 1) ≡ Some x =
    slice_get_read own.seats.items (length own.seats.items) (at - 1) x refl (omega (arith, spot.within, c.if-spot-eq0.false)) (c.index-2.ensures ∙ ap (λ (s : Segment). get_or s.seats.items (at - 1) x) same) in
    let number : suc (before + (at - 1)) ≡ up_to key (seats_of ss) = omega (arith, c.seek-spot.ensures.number, c.if-spot-eq0.false) in
    let there : last_of (seats_of ss) (up_to key (seats_of ss)) ≡ Some x = ap (λ n. last_of (seats_of ss) n) (sym number) ∙ seat_at ss i own spot.there (at - 1) x told in
    ap (λ o. option_map (λ (s : Seat). s.place) o) (sym there) ∙ ap (λ (v : SeatsView). option_map (λ (s : Seat). s.place) (last_of v.items (up_to key v.items))) c.self.view_is
