use Rattle.std.proofs.Common.{◌≡◌, ◌+◌, suc, sym, ap, ap₂, subst, ◌∙◌, length, remove, slice_get, slice_set, add-one, arith}
use Rattle.std.proofs.lemmas.List.{length-append, map-set}
use Rattle.std.proofs.lemmas.List.Elements.{All-push}
use Rattle.acc_raw.specs.declared.segment.Segment.{Segment}
use Rattle.acc_raw.specs.inner.Segments.{AreCrowded, AreFilled, IsEmpty, lengths, seats_of}
use Rattle.std.specs.Prelude.{All}
use Rattle.acc_raw.proofs.Searching.{filled_at}
use Rattle.acc_base.proofs.Lists.{map-remove}
use Rattle.acc_raw.proofs.Segmenting.{filled_remove, filled_set, seats_joined, side_by_side}
use Rattle.acc_raw.proofs.segments.Shelf.join.Goals as goal

pub join-requires-clause-lower : goal.join-requires-clause-lower
join-requires-clause-lower c =
    let ss = c.args.self.now.filled.items in let i = c.args.index in let low = c.index_mut.result.now in
    let two = side_by_side ss c.remove-upper.new.self.items i low c.remove-upper.result (omega (arith, c.requires.within, c.args.self.now.filled.ok.0)) c.remove-upper.ensures.items c.index_mut.ensures.value c.remove-upper.ensures.value in
    filled_at ss i low c.requires.shelf.filled two.0

pub join-requires-clause-upper : goal.join-requires-clause-upper
join-requires-clause-upper c =
    let ss = c.args.self.now.filled.items in let i = c.args.index in let low = c.index_mut.result.now in
    let two = side_by_side ss c.remove-upper.new.self.items i low c.remove-upper.result (omega (arith, c.requires.within, c.args.self.now.filled.ok.0)) c.remove-upper.ensures.items c.index_mut.ensures.value c.remove-upper.ensures.value in
    filled_at ss (suc i) c.remove-upper.result c.requires.shelf.filled two.1

pub join-requires-clause-room : goal.join-requires-clause-room
join-requires-clause-room c =
    let ss = c.args.self.now.filled.items in let i = c.args.index in let low = c.index_mut.result.now in let up = c.remove-upper.result in
    let two = side_by_side ss c.remove-upper.new.self.items i low up (omega (arith, c.requires.within, c.args.self.now.filled.ok.0)) c.remove-upper.ensures.items c.index_mut.ensures.value c.remove-upper.ensures.value in
    let few = c.requires.few low up two.0 (ap (λ k. slice_get ss k) (add-one i) ∙ two.1) in omega (arith, few)

pub returns-clause-kept : goal.returns-clause-kept
returns-clause-kept c =
    let ss = c.args.self.now.filled.items in let i = c.args.index in let low = c.index_mut.result.now in let up = c.remove-upper.result in let new = c.join.new.self in
    let rest = c.remove-upper.new.self.items in
    let two = side_by_side ss rest i low up (omega (arith, c.requires.within, c.args.self.now.filled.ok.0)) c.remove-upper.ensures.items c.index_mut.ensures.value c.remove-upper.ensures.value in
    let shelf = c.requires.shelf in let size = λ (s : Segment). length s.seats.items in
    let sizes : lengths (slice_set rest i new) ≡ slice_set (remove (lengths ss) (i + 1)) i (size low + size up) =
    map-set size rest i new
    ∙ ap₂ (λ ns n. slice_set ns i n) (ap lengths c.remove-upper.ensures.items ∙ map-remove size ss (i + 1)) (ap length c.join.ensures.seats ∙ length-append low.seats.items up.seats.items) in (
      record {
        filled = filled_set rest i new (subst AreFilled (sym c.remove-upper.ensures.items) (filled_remove ss (i + 1) shelf.filled)) c.join.ensures.filled;
        empty = subst (λ l. All IsEmpty l) (sym c.push_reserved.ensures.items) (All-push IsEmpty c.args.self.now.empty.items c.join.new.upper shelf.empty c.join.ensures.empty);
        there = omega (arith, shelf.there, c.remove-upper.ensures.len, c.remove-upper.ensures.capacity, c.push_reserved.ensures.len);
        back = omega (arith, shelf.back, c.remove-upper.ensures.len, c.push_reserved.ensures.len, c.push_reserved.ensures.capacity);
      },
      subst AreCrowded (sym sizes) (c.requires.crowded low up two.0 (ap (λ k. slice_get ss k) (add-one i) ∙ two.1)),
    )

pub returns-clause-seats : goal.returns-clause-seats
returns-clause-seats c =
    let ss = c.args.self.now.filled.items in let i = c.args.index in let low = c.index_mut.result.now in let up = c.remove-upper.result in let new = c.join.new.self in
    let rest = c.remove-upper.new.self.items in
    let two = side_by_side ss rest i low up (omega (arith, c.requires.within, c.args.self.now.filled.ok.0)) c.remove-upper.ensures.items c.index_mut.ensures.value c.remove-upper.ensures.value in
    ap (λ l. seats_of (slice_set l i new)) (c.remove-upper.ensures.items ∙ ap (λ k. remove ss k) (add-one i)) ∙ seats_joined ss i low up new two.0 two.1 c.join.ensures.seats
