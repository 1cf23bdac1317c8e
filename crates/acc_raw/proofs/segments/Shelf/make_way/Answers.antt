use Rattle.std.proofs.Common.{◌≡◌, ℕ, ◌+◌, suc, sym, ap, ◌∙◌, length, insert, take, slice_get, slice_set, Some, vec_len, add-one, arith, inl, inr}
use Rattle.std.proofs.lemmas.Bool.{cases_Bool, ltb-true, ltb-false}
use Rattle.std.specs.Prelude.{nat_lt}
use Rattle.std.proofs.lemmas.List.{length-append}
use Rattle.std.proofs.lemmas.Option.{slice_get_within}
use Rattle.acc_raw.specs.declared.segment.Segment.{Segment}
use Rattle.acc_raw.specs.declared.segment.TheConstants.{MOST}
use Rattle.acc_raw.specs.inner.Segments.{lengths, seats_of}
use Rattle.acc_raw.proofs.Crowding.{crowded_full, positive, total_is}
use Rattle.acc_raw.proofs.Searching.{filled_at, own_is}
use Rattle.acc_raw.proofs.Segmenting.{get_same, length-sizes, map-at, parted_lower, parted_upper, seats_parted}
use Rattle.acc_raw.proofs.segments.Shelf.make_way.Goals as goal

abbrev size : Segment → ℕ
size s = length s.seats.items

pub part-requires-clause-full : goal.part-requires-clause-full
part-requires-clause-full c = λ own at.
    let ss = c.args.self.now.filled.items in let i = c.args.spot.segment in
    let same = ap size (own_is ss i own c.index.result.now at c.index.ensures) in let most = (filled_at ss i own c.requires.kept.0.filled at).most in
    omega (arith, same, most, c.len.ensures, c.if-len-lt-MOST.false, c.index.result.now.seats.ok.0)

pub part-requires-clause-some : goal.part-requires-clause-some
part-requires-clause-some c =
    let ss = c.args.self.now.filled.items in let i = c.args.spot.segment in let own = c.requires.spot.own in let at = c.requires.spot.there in
    let same = ap size (own_is ss i own c.index.result.now at c.index.ensures) in let most = (filled_at ss i own c.requires.kept.0.filled at).most in
    let full : size own ≡ MOST = omega (arith, same, most, c.len.ensures, c.if-len-lt-MOST.false, c.index.result.now.seats.ok.0) in
    let many = crowded_full (lengths ss) i (positive ss c.requires.kept.0.filled) c.requires.kept.1 (map-at size ss i own at ∙ ap Some full) in
    elim (cases_Bool (nat_lt 0 (vec_len c.args.self.now.empty))) [
      | inl some ↦ ltb-true 0 (vec_len c.args.self.now.empty) some
      | inr none ↦
          let le = ltb-false 0 (vec_len c.args.self.now.empty) none in
          absurd (omega (arith, le, many, total_is ss, length-sizes ss, c.requires.few, c.args.self.now.filled.ok.0))
    ]

pub returns-then-spot-le-FEW-clause-seats : goal.returns-then-spot-le-FEW-clause-seats
returns-then-spot-le-FEW-clause-seats c =
    let p = c.part.ensures.parted in let ss = c.args.self.now.filled.items in let i = c.args.spot.segment in
    ap seats_of (p.parted ∙ ap (λ k. insert (slice_set ss i p.lower) k p.upper) (add-one i)) ∙ seats_parted ss i p.own p.lower p.upper p.there p.seats

pub returns-then-spot-le-FEW-clause-spot : goal.returns-then-spot-le-FEW-clause-spot
returns-then-spot-le-FEW-clause-spot c =
    let p = c.part.ensures.parted in let ss = c.args.self.now.filled.items in let i = c.args.spot.segment in
    let is = p.parted ∙ ap (λ k. insert (slice_set ss i p.lower) k p.upper) (add-one i) in
    record { own = p.lower; there = ap (λ l. slice_get l i) is ∙ (parted_lower ss i p.own p.lower p.upper p.there).1; within = omega (arith, p.halves.0, c.if-spot-le-FEW.true) }

pub returns-then-spot-le-FEW-clause-number : goal.returns-then-spot-le-FEW-clause-number
returns-then-spot-le-FEW-clause-number c =
    let p = c.part.ensures.parted in let ss = c.args.self.now.filled.items in let i = c.args.spot.segment in
    let is = p.parted ∙ ap (λ k. insert (slice_set ss i p.lower) k p.upper) (add-one i) in
    ap (λ l. length (seats_of l) + c.args.spot.at) (ap (λ l. take i l) is ∙ (parted_lower ss i p.own p.lower p.upper p.there).0)

pub returns-then-spot-le-FEW-clause-free : goal.returns-then-spot-le-FEW-clause-free
returns-then-spot-le-FEW-clause-free c = λ own at.
    let p = c.part.ensures.parted in let ss = c.args.self.now.filled.items in let i = c.args.spot.segment in
    let is = p.parted ∙ ap (λ k. insert (slice_set ss i p.lower) k p.upper) (add-one i) in
    let same = ap size (get_same (sym at ∙ ap (λ l. slice_get l i) is ∙ (parted_lower ss i p.own p.lower p.upper p.there).1)) in omega (arith, same, p.halves.0)

pub overflow_add-result : goal.overflow_add-result
overflow_add-result c =
    let ss = c.args.self.now.filled.items in let within = slice_get_within ss c.args.spot.segment c.requires.spot.own c.requires.spot.there in
    omega (arith, within, c.args.self.now.filled.ok)

pub returns-clause-seats : goal.returns-clause-seats
returns-clause-seats c =
    let p = c.part.ensures.parted in let ss = c.args.self.now.filled.items in let i = c.args.spot.segment in
    ap seats_of (p.parted ∙ ap (λ k. insert (slice_set ss i p.lower) k p.upper) (add-one i)) ∙ seats_parted ss i p.own p.lower p.upper p.there p.seats

pub returns-clause-spot : goal.returns-clause-spot
returns-clause-spot c =
    let p = c.part.ensures.parted in let ss = c.args.self.now.filled.items in let i = c.args.spot.segment in
    let is = p.parted ∙ ap (λ k. insert (slice_set ss i p.lower) k p.upper) (add-one i) in
    let whole = ap length p.seats in let parts = length-append p.lower.seats.items p.upper.seats.items in let same = ap size (get_same (sym c.requires.spot.there ∙ p.there)) in
    record {
      own = p.upper;
      there = ap (λ k. slice_get c.part.new.self.filled.items k) (add-one i) ∙ ap (λ l. slice_get l (suc i)) is ∙ parted_upper ss i p.own p.lower p.upper p.there;
      within = omega (arith, whole, parts, same, p.halves.0, c.requires.spot.within);
    }

pub returns-clause-free : goal.returns-clause-free
returns-clause-free c = λ own at.
    let p = c.part.ensures.parted in let ss = c.args.self.now.filled.items in let i = c.args.spot.segment in
    let is = p.parted ∙ ap (λ k. insert (slice_set ss i p.lower) k p.upper) (add-one i) in
    let there = ap (λ k. slice_get c.part.new.self.filled.items k) (add-one i) ∙ ap (λ l. slice_get l (suc i)) is ∙ parted_upper ss i p.own p.lower p.upper p.there in
    let same = ap size (get_same (sym at ∙ there)) in omega (arith, same, p.halves.1)
