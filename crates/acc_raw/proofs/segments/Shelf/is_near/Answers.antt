use Rattle.std.proofs.Common.{◌-◌, ◌<◌, ◌≤◌, suc, refl, ap, subst, ◌∙◌, List, length, get_or, add-one, arith}
use Rattle.std.proofs.lemmas.Bool.{ltb-true}
use Rattle.std.proofs.lemmas.Option.{slice_get_read, slice_get_within}
use denote.RawPtr.{null_ptr}
use Rattle.acc_raw.specs.declared.segment.Seat.{Seat}
use Rattle.acc_raw.specs.declared.segment.Segment.{Segment}
use Rattle.acc_raw.proofs.Searching.{near_found, own_is}
use Rattle.acc_raw.proofs.segments.Shelf.is_near.Goals as goal

pub returns-then-at-seats-clause-spot : goal.returns-then-at-seats-clause-spot
returns-then-at-seats-clause-spot c = λ hit.
    let ss = c.args.self.now.filled.items in let i = c.args.self.now.near.segment in let own = c.index.result.now in
    let there = slice_get_read ss (length ss) i own refl (omega (arith, c.if-len-segment.false, c.len.ensures)) c.index.ensures in let many = ap length c.as_slice-seats.ensures.value in
    record { own = own; there = there; within = omega (arith, many, c.if-seats-at.false) }

pub returns-then-at-seats-clause-number : goal.returns-then-at-seats-clause-number
returns-then-at-seats-clause-number c = λ hit.
    let ss = c.args.self.now.filled.items in let i = c.args.self.now.near.segment in let own = c.index.result.now in
    let there = slice_get_read ss (length ss) i own refl (omega (arith, c.if-len-segment.false, c.len.ensures)) c.index.ensures in let many = ap length c.as_slice-seats.ensures.value in
    let at = c.args.self.now.near.at in let key = c.args.key in let d : Seat = record { key = 0; place = record { ptr = null_ptr } } in
    near_found ss i at key own there d c.requires.filled c.requires.ascend (omega (arith, c.if-at-eq0.false)) (omega (arith, many, c.if-seats-at.false))
    (subst (λ (l : List Seat). (get_or l (at - 1) d).key ≤ key) c.as_slice-seats.ensures.value c.if-key-seats.false)
    (λ lt. subst (λ (l : List Seat). key < (get_or l at d).key) c.as_slice-seats.ensures.value (ltb-true key (get_or c.as_slice-seats.result.now at d).key hit))
    (λ end next t. absurd (omega (arith, end, many, c.if-at-seats.true)))

pub returns-then-segment-len-clause-spot : goal.returns-then-segment-len-clause-spot
returns-then-segment-len-clause-spot c = λ hit.
    let ss = c.args.self.now.filled.items in let i = c.args.self.now.near.segment in let own = c.index.result.now in
    let there = slice_get_read ss (length ss) i own refl (omega (arith, c.if-len-segment.false, c.len.ensures)) c.index.ensures in let many = ap length c.as_slice-seats.ensures.value in
    record { own = own; there = there; within = omega (arith, many, c.if-seats-at.false) }

pub returns-then-segment-len-clause-number : goal.returns-then-segment-len-clause-number
returns-then-segment-len-clause-number c = λ hit.
    let ss = c.args.self.now.filled.items in let i = c.args.self.now.near.segment in let own = c.index.result.now in
    let there = slice_get_read ss (length ss) i own refl (omega (arith, c.if-len-segment.false, c.len.ensures)) c.index.ensures in let many = ap length c.as_slice-seats.ensures.value in
    let at = c.args.self.now.near.at in let key = c.args.key in let d : Seat = record { key = 0; place = record { ptr = null_ptr } } in
    near_found ss i at key own there d c.requires.filled c.requires.ascend (omega (arith, c.if-at-eq0.false)) (omega (arith, many, c.if-seats-at.false))
    (subst (λ (l : List Seat). (get_or l (at - 1) d).key ≤ key) c.as_slice-seats.ensures.value c.if-key-seats.false)
    (λ lt. absurd (omega (arith, lt, many, c.if-at-seats.false)))
    (λ end next t. let low = slice_get_within ss (suc i) next t in absurd (omega (arith, low, c.if-segment-len.true, c.len-2.ensures)))

pub returns-else-segment-len-clause-spot : goal.returns-else-segment-len-clause-spot
returns-else-segment-len-clause-spot c = λ hit.
    let ss = c.args.self.now.filled.items in let i = c.args.self.now.near.segment in let own = c.index.result.now in
    let there = slice_get_read ss (length ss) i own refl (omega (arith, c.if-len-segment.false, c.len.ensures)) c.index.ensures in let many = ap length c.as_slice-seats.ensures.value in
    record { own = own; there = there; within = omega (arith, many, c.if-seats-at.false) }

pub returns-else-segment-len-clause-number : goal.returns-else-segment-len-clause-number
returns-else-segment-len-clause-number c = λ hit.
    let ss = c.args.self.now.filled.items in let i = c.args.self.now.near.segment in let own = c.index.result.now in
    let there = slice_get_read ss (length ss) i own refl (omega (arith, c.if-len-segment.false, c.len.ensures)) c.index.ensures in let many = ap length c.as_slice-seats.ensures.value in
    let at = c.args.self.now.near.at in let key = c.args.key in let d : Seat = record { key = 0; place = record { ptr = null_ptr } } in
    near_found ss i at key own there d c.requires.filled c.requires.ascend (omega (arith, c.if-at-eq0.false)) (omega (arith, many, c.if-seats-at.false))
    (subst (λ (l : List Seat). (get_or l (at - 1) d).key ≤ key) c.as_slice-seats.ensures.value c.if-key-seats.false)
    (λ lt. absurd (omega (arith, lt, many, c.if-at-seats.false)))
    (λ end next t. let q = c.index-else-segment-len.result.now in let same = own_is ss (suc i) next q t (c.index-else-segment-len.ensures ∙ ap (λ n. get_or ss n q) (add-one i)) in subst (λ (s : Segment). key < s.first) same (ltb-true key q.first hit))
