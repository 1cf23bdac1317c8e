use Rattle.std.proofs.Common.{◌≡◌, ℕ, ◌+◌, ◌-◌, suc, refl, sym, ap, subst, ◌∙◌, length, get_or, remove, slice_get, slice_set, Some, add-one, arith}
use Rattle.std.proofs.lemmas.Option.{slice_get_read, slice_get_within}
use Rattle.acc_raw.specs.declared.segment.Segment.{Segment}
use Rattle.acc_raw.specs.inner.Segments.{AreCrowded, lengths}
use Rattle.acc_raw.proofs.Crowding.{crowded_lower, crowded_still, crowded_upper, positive}
use Rattle.acc_raw.proofs.Searching.{own_is}
use Rattle.acc_raw.proofs.Segmenting.{map-at, map-from}
use Rattle.acc_raw.proofs.segments.Shelf.settle.Goals as goal
use Rattle.acc_raw.proofs.segments.Shelf.settle.Goals.{else-index-len-via-then-index-len+else-len-le-FEW, else-index-len-via-else-index-len, else-index-gt0-via-then-index-gt0+else-len-le-FEW-2, else-index-gt0-via-else-index-gt0}

abbrev size : Segment → ℕ
size s = length s.seats.items

pub join-requires-clause-crowded : goal.join-requires-clause-crowded
join-requires-clause-crowded c = λ own next at after.
    let ss = c.args.self.now.filled.items in let i = c.args.index in let one = add-one i in
    subst (λ k. AreCrowded (slice_set (remove (lengths ss) k) i (size own + size next))) (sym one)
    (crowded_lower (lengths ss) i (size own) (size next) (positive ss c.requires.shelf.filled) (map-at size ss i own at) (map-at size ss (suc i) next (ap (λ k. slice_get ss k) (sym one) ∙ after)) (c.requires.crowded own at))

pub join-requires-then-len-le-FEW-2-clause-few : goal.join-requires-then-len-le-FEW-2-clause-few
join-requires-then-len-le-FEW-2-clause-few c = λ own next at after.
    let ss = c.args.self.now.filled.items in let i = c.args.index in let whole : i - 1 + 1 ≡ i = omega (arith, c.if-index-gt0.true) in
    let first = ap size (own_is ss (i - 1) own c.index-then-index-gt0.result.now at c.index-then-index-gt0.ensures) in
    let second = ap size (own_is ss i next c.index.result.now (ap (λ k. slice_get ss k) (sym whole) ∙ after) c.index.ensures) in
    omega (arith, first, second, c.if-len-le-FEW-2.true, c.len-then-index-gt0.ensures, c.len-len.ensures, c.index-then-index-gt0.result.now.seats.ok.0, c.index.result.now.seats.ok.0)

pub join-requires-then-len-le-FEW-2-clause-crowded : goal.join-requires-then-len-le-FEW-2-clause-crowded
join-requires-then-len-le-FEW-2-clause-crowded c = λ own next at after.
    let ss = c.args.self.now.filled.items in let j = c.args.index - 1 in let whole : suc j ≡ c.args.index = omega (arith, c.if-index-gt0.true) in let one = add-one j in
    let there : slice_get ss (suc j) ≡ Some next = ap (λ k. slice_get ss k) (sym one) ∙ after in
    subst (λ k. AreCrowded (slice_set (remove (lengths ss) k) j (size own + size next))) (sym one)
    (crowded_upper (lengths ss) j (size own) (size next) (positive ss c.requires.shelf.filled) (map-at size ss j own at) (map-at size ss (suc j) next there)
    (subst (λ k. AreCrowded (slice_set (lengths ss) k (size next + 1))) (sym whole) (c.requires.crowded next (ap (λ k. slice_get ss k) (sym whole) ∙ there))))

pub returns-else-index-gt0-clause-kept : goal.returns-else-index-gt0-clause-kept
returns-else-index-gt0-clause-kept c =
    let ss = c.args.self.now.filled.items in let i = c.args.index in let own = c.index.result.now in
    let there = slice_get_read ss (length ss) i own refl (omega (arith, c.requires.within, c.args.self.now.filled.ok.0)) c.index.ensures in
    let many : c.len-len.result ≡ size own = omega (arith, c.len-len.ensures, own.seats.ok.0) in
    let shelf = c.requires.shelf in (
      record { filled = shelf.filled; empty = shelf.empty; there = shelf.there; back = shelf.back },
      crowded_still (lengths ss) i (size own) (map-at size ss i own there) (c.requires.crowded own there)
          (λ m at. let next = map-from size ss (suc i) m at in elim c.else-index-len.branch [
            | else-index-len-via-then-index-len+else-len-le-FEW w ↦
                (let read = own_is ss (suc i) next.0 w.index-then-index-len.result.now next.1 (subst (λ k. w.index-then-index-len.result.now ≡ get_or ss k w.index-then-index-len.result.now) (add-one i) w.index-then-index-len.ensures) in
                let same = ap size read in
                omega (arith, many, same, next.2, w.if-len-le-FEW.false, w.len-then-index-len.ensures, w.index-then-index-len.result.now.seats.ok.0))
            | else-index-len-via-else-index-len w ↦ (let within = slice_get_within ss (suc i) next.0 next.1 in absurd (omega (arith, within, w.if-index-len.false, c.len.ensures, c.args.self.now.filled.ok.0)))
          ])
          (λ j m e at. let prev = map-from size ss j m at in elim c.else-index-gt0.branch [
            | else-index-gt0-via-then-index-gt0+else-len-le-FEW-2 w ↦
                (let less : i - 1 ≡ j = omega (arith, e) in
                let read = own_is ss j prev.0 w.index-then-index-gt0.result.now prev.1 (subst (λ k. w.index-then-index-gt0.result.now ≡ get_or ss k w.index-then-index-gt0.result.now) less w.index-then-index-gt0.ensures) in
                let same = ap size read in
                omega (arith, many, same, prev.2, w.if-len-le-FEW-2.false, w.len-then-index-gt0.ensures, w.index-then-index-gt0.result.now.seats.ok.0))
            | else-index-gt0-via-else-index-gt0 w ↦ absurd (omega (arith, e, w.if-index-gt0.false))
          ]),
    )
