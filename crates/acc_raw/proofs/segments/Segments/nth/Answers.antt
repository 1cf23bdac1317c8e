use Rattle.std.proofs.Common.{◌+◌, ◌-◌, sym, ap, ◌∙◌, length, drop, get_or, slice_get, arith}
use Rattle.std.specs.Option.{option_map}
use Rattle.std.proofs.lemmas.Option.{slice_get-get_or}
use Rattle.acc_raw.specs.declared.segment.Seat.{Seat}
use denote.RawPtr.{null_ptr}
use Rattle.acc_raw.specs.inner.Segments.{seats_of}
use Rattle.acc_raw.proofs.Segmenting.{others_then, own_first}
use Rattle.acc_raw.proofs.segments.Segments.nth.Goals as goal

pub returns-then-left-seats : goal.returns-then-left-seats
returns-then-left-seats c =
    let ss = c.as_slice-segment-items.result.now in let k = c.loop-segment.segment-index in let left = c.loop-segment.left in let s = c.segment-item.result in let seats = c.as_slice-seats.result.now in
    let d : Seat = record { key = 0; place = record { ptr = null_ptr } } in let x = get_or seats left d in
    let told = ap (λ l. slice_get l left) (sym c.as_slice-seats.ensures.value) ∙ slice_get-get_or seats left d c.if-left-seats.true in
    ap (λ o. option_map (λ (q : Seat). q.place) o) (sym (c.loop-segment.invariant ∙ own_first ss k left s c.loop-segment-test.true c.segment-item.is x told))

pub loop-segment-preserved : goal.loop-segment-preserved
loop-segment-preserved c =
    let ss = c.as_slice-segment-items.result.now in let k = c.loop-segment.segment-index in let left = c.loop-segment.left in let s = c.segment-item.result in
    let same = ap length c.as_slice-seats.ensures.value in
    c.loop-segment.invariant ∙ others_then ss k left s c.loop-segment-test.true c.segment-item.is (omega (arith, same, c.if-left-seats.false))
    ∙ ap (λ n. slice_get (seats_of (drop (k + 1) ss)) (left - n)) (sym same)
