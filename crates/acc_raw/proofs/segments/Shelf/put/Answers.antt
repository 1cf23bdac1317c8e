use Rattle.std.proofs.Common.{sym, ap, subst, ◌∙◌, length, insert, arith}
use Rattle.std.proofs.lemmas.List.Edits.{length-insert}
use Rattle.acc_raw.specs.declared.segment.Segment.{Segment}
use Rattle.acc_raw.specs.inner.Segments.{AreCrowded, IsFilled, lengths}
use Rattle.acc_raw.proofs.Crowding.{crowded_more}
use Rattle.acc_raw.proofs.Searching.{filled_at, own_is}
use Rattle.std.proofs.lemmas.List.{map-set}
use Rattle.acc_raw.proofs.Segmenting.{filled_set, map-at, seats_put}
use Rattle.acc_raw.proofs.segments.Shelf.put.Goals as goal

pub put-requires-clause-filled : goal.put-requires-clause-filled
put-requires-clause-filled c =
    subst IsFilled (sym (own_is c.args.self.now.filled.items c.args.spot.segment c.requires.spot.own c.index_mut.result.now c.requires.spot.there c.index_mut.ensures.value)) (filled_at c.args.self.now.filled.items c.args.spot.segment c.requires.spot.own c.requires.kept.0.filled c.requires.spot.there)

pub put-requires-clause-room : goal.put-requires-clause-room
put-requires-clause-room c = let many = ap (λ (s : Segment). length s.seats.items) (own_is c.args.self.now.filled.items c.args.spot.segment c.requires.spot.own c.index_mut.result.now c.requires.spot.there c.index_mut.ensures.value) in let free = c.requires.free c.requires.spot.own c.requires.spot.there in omega (arith, many, free)

pub put-requires-clause-within : goal.put-requires-clause-within
put-requires-clause-within c = let many = ap (λ (s : Segment). length s.seats.items) (own_is c.args.self.now.filled.items c.args.spot.segment c.requires.spot.own c.index_mut.result.now c.requires.spot.there c.index_mut.ensures.value) in omega (arith, many, c.requires.spot.within)

pub returns-clause-kept : goal.returns-clause-kept
returns-clause-kept c =
    let ss = c.args.self.now.filled.items in let i = c.args.spot.segment in let own = c.requires.spot.own in let new = c.put.new.self in
    let many = ap (λ (s : Segment). length s.seats.items) (own_is c.args.self.now.filled.items c.args.spot.segment c.requires.spot.own c.index_mut.result.now c.requires.spot.there c.index_mut.ensures.value) in
    let more = ap length c.put.ensures.seats ∙ length-insert c.index_mut.result.now.seats.items c.args.spot.at c.args.seat (omega (arith, many, c.requires.spot.within)) in
    let shelf = c.requires.kept.0 in (
      record { filled = filled_set ss i new shelf.filled c.put.ensures.filled; empty = shelf.empty; there = shelf.there; back = shelf.back },
      subst AreCrowded (sym (map-set (λ (s : Segment). length s.seats.items) ss i new))
          (crowded_more (lengths ss) i (length own.seats.items) (length new.seats.items) c.requires.kept.1 (map-at (λ (s : Segment). length s.seats.items) ss i own c.requires.spot.there) (omega (arith, many, more))),
    )

pub returns-clause-seats : goal.returns-clause-seats
returns-clause-seats c =
    let ss = c.args.self.now.filled.items in
    seats_put ss c.args.spot.segment c.requires.spot.own c.requires.spot.there c.args.spot.at c.args.seat c.put.new.self c.requires.spot.within
    (c.put.ensures.seats ∙ ap (λ (s : Segment). insert s.seats.items c.args.spot.at c.args.seat) (own_is c.args.self.now.filled.items c.args.spot.segment c.requires.spot.own c.index_mut.result.now c.requires.spot.there c.index_mut.ensures.value))
