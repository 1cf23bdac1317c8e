use Rattle.std.proofs.Common.{◌≡◌, ◌+◌, ◌-◌, sym, ap, subst, ◌∙◌, length, take, get_or, remove, slice_get, slice_set, Some, vec_capacity, arith}
use Rattle.std.specs.Prelude.{All}
use Rattle.std.proofs.lemmas.List.Elements.{All-push}
use Rattle.std.proofs.lemmas.List.Edits.{length-remove}
use Rattle.std.proofs.lemmas.Option.{slice_get_read, slice_get_within}
use Rattle.acc_raw.specs.declared.segment.Segment.{Segment}
use Rattle.acc_raw.specs.inner.Segments.{AreCrowded, AreFilled, IsEmpty, IsFilled, lengths, seats_of}
use Rattle.acc_raw.proofs.Crowding.{crowded_gone}
use Rattle.acc_raw.proofs.Searching.{filled_at, own_is}
use Rattle.acc_base.proofs.Lists.{map-remove}
use Rattle.std.proofs.lemmas.List.{map-set}
use Rattle.acc_raw.proofs.Segmenting.{filled_remove, filled_set, get_set, map-at, none_left, seat_at, seats_gone, seats_taken, set_again, set_same}
use Rattle.acc_raw.proofs.segments.Shelf.take.Goals as goal

pub returns-then-len-eq1-clause-kept : goal.returns-then-len-eq1-clause-kept
returns-then-len-eq1-clause-kept c =
    let ss = c.args.self.now.filled.items in let i = c.args.spot.segment in let own = c.requires.spot.own in let there = c.requires.spot.there in
    let size = λ (s : Segment). length s.seats.items in
    let one : size own ≡ 1 = omega (arith, ap size (own_is ss i own c.index.result.now there c.index.ensures), c.len.ensures, c.if-len-eq1.true, c.index.result.now.seats.ok.0) in
    let same = own_is ss i own c.remove-segment.result there c.remove-segment.ensures.value in
    let shelf = c.requires.kept.0 in let own_filled = filled_at ss i own shelf.filled there in
    let none = c.remove-seat.ensures.items ∙ ap (λ (s : Segment). remove s.seats.items 0) same ∙ none_left own.seats.items one in
    let room = ap (λ (s : Segment). vec_capacity s.seats) same in (
      record {
        filled = subst AreFilled (sym c.remove-segment.ensures.items) (filled_remove ss i shelf.filled);
        empty = subst (λ l. All IsEmpty l) (sym c.push_reserved.ensures.items) (All-push IsEmpty c.args.self.now.empty.items _ shelf.empty (none, omega (arith, room, c.remove-seat.ensures.capacity, own_filled.room)));
        there = omega (arith, shelf.there, c.remove-segment.ensures.len, c.remove-segment.ensures.capacity, c.push_reserved.ensures.len);
        back = omega (arith, shelf.back, c.remove-segment.ensures.len, c.push_reserved.ensures.len, c.push_reserved.ensures.capacity);
      },
      subst AreCrowded (sym (ap lengths c.remove-segment.ensures.items ∙ map-remove size ss i)) (crowded_gone (lengths ss) i c.requires.kept.1 (map-at size ss i own there ∙ ap Some one)),
    )

pub returns-then-len-eq1-clause-seat : goal.returns-then-len-eq1-clause-seat
returns-then-len-eq1-clause-seat c =
    let ss = c.args.self.now.filled.items in let i = c.args.spot.segment in let own = c.requires.spot.own in let there = c.requires.spot.there in
    let size = λ (s : Segment). length s.seats.items in let x = c.remove-seat.result in
    let one : size own ≡ 1 = omega (arith, ap size (own_is ss i own c.index.result.now there c.index.ensures), c.len.ensures, c.if-len-eq1.true, c.index.result.now.seats.ok.0) in
    let same = own_is ss i own c.remove-segment.result there c.remove-segment.ensures.value in
    let number : length (seats_of (take i ss)) + c.args.spot.at - 1 ≡ length (seats_of (take i ss)) + 0 = omega (arith, one, c.requires.some, c.requires.spot.within) in
    ap (λ k. slice_get (seats_of ss) k) number
    ∙ seat_at ss i own there 0 x (slice_get_read own.seats.items 1 0 x (sym one) (omega arith) (c.remove-seat.ensures.value ∙ ap (λ (s : Segment). get_or s.seats.items 0 x) same))

pub returns-then-len-eq1-clause-seats : goal.returns-then-len-eq1-clause-seats
returns-then-len-eq1-clause-seats c =
    let ss = c.args.self.now.filled.items in let i = c.args.spot.segment in let own = c.requires.spot.own in let there = c.requires.spot.there in
    let size = λ (s : Segment). length s.seats.items in
    let one : size own ≡ 1 = omega (arith, ap size (own_is ss i own c.index.result.now there c.index.ensures), c.len.ensures, c.if-len-eq1.true, c.index.result.now.seats.ok.0) in
    let number : length (seats_of (take i ss)) ≡ length (seats_of (take i ss)) + c.args.spot.at - 1 = omega (arith, one, c.requires.some, c.requires.spot.within) in
    ap seats_of c.remove-segment.ensures.items ∙ seats_gone ss i own there one ∙ ap (λ k. remove (seats_of ss) k) number

pub index_mut-requires : goal.index_mut-requires
index_mut-requires c = let within = slice_get_within c.args.self.now.filled.items c.args.spot.segment c.requires.spot.own c.requires.spot.there in omega (arith, within, c.args.self.now.filled.ok.0)

pub take-seat-requires-clause-filled : goal.take-seat-requires-clause-filled
take-seat-requires-clause-filled c =
    let ss = c.args.self.now.filled.items in let i = c.args.spot.segment in let own = c.requires.spot.own in let there = c.requires.spot.there in
    subst IsFilled (sym (own_is ss i own c.index_mut.result.now there c.index_mut.ensures.value)) (filled_at ss i own c.requires.kept.0.filled there)

pub take-seat-requires-clause-some : goal.take-seat-requires-clause-some
take-seat-requires-clause-some c =
    let ss = c.args.self.now.filled.items in let i = c.args.spot.segment in let own = c.requires.spot.own in let there = c.requires.spot.there in
    let size = λ (s : Segment). length s.seats.items in
    let same = ap size (own_is ss i own c.index.result.now there c.index.ensures) in let now = ap size (own_is ss i own c.index_mut.result.now there c.index_mut.ensures.value) in
    omega (arith, same, now, c.len.ensures, c.if-len-eq1.false, c.index.result.now.seats.ok.0, c.requires.some, c.requires.spot.within)

pub settle-requires-clause-shelf : goal.settle-requires-clause-shelf
settle-requires-clause-shelf c =
    let shelf = c.requires.kept.0 in
    record { filled = filled_set c.args.self.now.filled.items c.args.spot.segment c.take-seat.new.self shelf.filled c.take-seat.ensures.filled; empty = shelf.empty; there = shelf.there; back = shelf.back }

-- with the seat that went the segments are crowded
pub settle-requires-clause-crowded : goal.settle-requires-clause-crowded
settle-requires-clause-crowded c = λ still at.
    let ss = c.args.self.now.filled.items in let i = c.args.spot.segment in let own = c.requires.spot.own in let there = c.requires.spot.there in
    let size = λ (s : Segment). length s.seats.items in let new = c.take-seat.new.self in
    let same = own_is ss i own c.index_mut.result.now there c.index_mut.ensures.value in
    let some = ap size same in let is = ap size (get_set ss i own new still there at) in
    let fewer = ap length c.take-seat.ensures.seats in let less = length-remove c.index_mut.result.now.seats.items (c.args.spot.at - 1) (omega (arith, some, c.requires.some, c.requires.spot.within)) in
    let one : size still + 1 ≡ size own = omega (arith, some, is, fewer, less) in
    subst AreCrowded (sym (ap (λ ns. slice_set ns i (size still + 1)) (map-set size ss i new) ∙ set_again (lengths ss) i (size new) (size still + 1) ∙ ap (λ n. slice_set (lengths ss) i n) one
    ∙ set_same (lengths ss) i (size own) (map-at size ss i own there))) c.requires.kept.1

pub returns-clause-seat : goal.returns-clause-seat
returns-clause-seat c =
    let ss = c.args.self.now.filled.items in let i = c.args.spot.segment in let own = c.requires.spot.own in let there = c.requires.spot.there in let before = length (seats_of (take i ss)) in
    let same = own_is ss i own c.index_mut.result.now there c.index_mut.ensures.value in let number : before + c.args.spot.at - 1 ≡ before + (c.args.spot.at - 1) = omega (arith, c.requires.some) in
    ap (λ k. slice_get (seats_of ss) k) number ∙ seat_at ss i own there (c.args.spot.at - 1) c.take-seat.result (ap (λ (s : Segment). slice_get s.seats.items (c.args.spot.at - 1)) (sym same) ∙ c.take-seat.ensures.seat)

pub returns-clause-seats : goal.returns-clause-seats
returns-clause-seats c =
    let ss = c.args.self.now.filled.items in let i = c.args.spot.segment in let own = c.requires.spot.own in let there = c.requires.spot.there in let before = length (seats_of (take i ss)) in
    let same = own_is ss i own c.index_mut.result.now there c.index_mut.ensures.value in let number : before + (c.args.spot.at - 1) ≡ before + c.args.spot.at - 1 = omega (arith, c.requires.some) in
    c.settle.ensures.seats
    ∙ seats_taken ss i own there (c.args.spot.at - 1) c.take-seat.new.self (omega (arith, c.requires.some, c.requires.spot.within)) (c.take-seat.ensures.seats ∙ ap (λ (s : Segment). remove s.seats.items (c.args.spot.at - 1)) same)
    ∙ ap (λ k. remove (seats_of ss) k) number
