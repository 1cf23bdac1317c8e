use Rattle.std.proofs.Common.{◌≡◌, ◌+◌, suc, refl, sym, ap, ap₂, subst, ◌∙◌, [], ◌∷◌, length, insert, slice_set, true, cond, vec_len, add-one, arith}
use Rattle.std.specs.Prelude.{All}
use Rattle.std.proofs.lemmas.Option.{slice_get_read}
use Rattle.core.specs.Result.{is_ok}
use Rattle.acc_raw.specs.declared.segment.Segment.{Segment}
use Rattle.acc_raw.specs.declared.segment.TheConstants.{FEW}
use Rattle.acc_raw.specs.inner.Segments.{AreCrowded, AreFilled, IsEmpty, lengths}
use Rattle.acc_raw.proofs.Crowding.{crowded_parted, positive}
use Rattle.acc_raw.proofs.Searching.{filled_at}
use Rattle.acc_base.proofs.Lists.{All-before, map-insert}
use Rattle.std.proofs.lemmas.List.{map-set}
use Rattle.acc_raw.proofs.Segmenting.{filled_insert, filled_set}
use Rattle.acc_raw.proofs.segments.Shelf.part.Goals as goal

pub part-requires-clause-filled : goal.part-requires-clause-filled
part-requires-clause-filled c =
    let ss = c.args.self.now.filled.items in let i = c.args.index in let own = c.index_mut.result.now in
    filled_at ss i own c.requires.kept.0.filled (slice_get_read ss (length ss) i own refl (omega (arith, c.requires.within, c.args.self.now.filled.ok.0)) c.index_mut.ensures.value)

pub part-requires-clause-full : goal.part-requires-clause-full
part-requires-clause-full c =
    let ss = c.args.self.now.filled.items in let i = c.args.index in let own = c.index_mut.result.now in
    c.requires.full own (slice_get_read ss (length ss) i own refl (omega (arith, c.requires.within, c.args.self.now.filled.ok.0)) c.index_mut.ensures.value)

pub returns-in-Some-clause-kept : goal.returns-in-Some-clause-kept
returns-in-Some-clause-kept c =
    let ss = c.args.self.now.filled.items in let i = c.args.index in let lower = c.part.new.self in let upper = c.part.new.upper in let shelf = c.requires.kept.0 in
    let size = λ (s : Segment). length s.seats.items in
    let ok : is_ok c.insert.result ≡ true = c.insert.ensures.succeeds (omega (arith, shelf.there, c.requires.some)) in
    let is = c.insert.ensures.items ∙ ap (λ b. cond b (insert (slice_set ss i lower) (i + 1) upper) (slice_set ss i lower)) ok in
    let longer = c.insert.ensures.len ∙ ap (λ b. cond b (vec_len c.args.self.now.filled + 1) (vec_len c.args.self.now.filled)) ok in
    let sizes : lengths c.insert.new.self.items ≡ insert (slice_set (lengths ss) i FEW) (suc i) FEW =
    ap lengths is ∙ map-insert size (slice_set ss i lower) (i + 1) upper ∙ ap (λ k. insert (lengths (slice_set ss i lower)) k (size upper)) (add-one i)
    ∙ ap₂ (λ ns n. insert ns (suc i) n) (map-set size ss i lower ∙ ap (λ n. slice_set (lengths ss) i n) c.part.ensures.half.0) c.part.ensures.half.1 in (
      record {
        filled = subst AreFilled (sym is) (filled_insert (slice_set ss i lower) (i + 1) upper (filled_set ss i lower shelf.filled c.part.ensures.lower) c.part.ensures.upper);
        empty = All-before IsEmpty c.pop.new.self.items (c.in-Some.upper ∷ []) (subst (λ l. All IsEmpty l) c.in-Some.ensures.items shelf.empty);
        there = omega (arith, shelf.there, longer, c.in-Some.ensures.len, c.insert.ensures.capacity);
        back = omega (arith, shelf.back, longer, c.in-Some.ensures.len, c.in-Some.ensures.capacity);
      },
      subst AreCrowded (sym sizes) (crowded_parted (lengths ss) i (positive ss shelf.filled) c.requires.kept.1),
    )

pub returns-in-Some-clause-parted : goal.returns-in-Some-clause-parted
returns-in-Some-clause-parted c =
    let ss = c.args.self.now.filled.items in let i = c.args.index in let own = c.index_mut.result.now in let lower = c.part.new.self in let upper = c.part.new.upper in let shelf = c.requires.kept.0 in
    let ok : is_ok c.insert.result ≡ true = c.insert.ensures.succeeds (omega (arith, shelf.there, c.requires.some)) in
    record {
      own = own;
      there = slice_get_read ss (length ss) i own refl (omega (arith, c.requires.within, c.args.self.now.filled.ok.0)) c.index_mut.ensures.value;
      lower = lower;
      upper = upper;
      seats = c.part.ensures.seats;
      halves = c.part.ensures.half;
      parted = c.insert.ensures.items ∙ ap (λ b. cond b (insert (slice_set ss i lower) (i + 1) upper) (slice_set ss i lower)) ok;
    }
