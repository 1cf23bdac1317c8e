use Rattle.std.proofs.Common.{◌≡◌, ◌+◌, ◌<◌, ℕ, Bool, cond, length, ap, arith}
use Rattle.std.proofs.lemmas.Bool.{lt-ltb, le-ltb}
use Rattle.acc_batch.specs.Labels.{on_queue}
use Rattle.acc_place.specs.Plans.{standing_in}
use Rattle.acc_report.proofs.PlacedTotals.{one_if, one_placed}
use Rattle.acc_report.proofs.run.placed_on.Goals as goal
use Rattle.acc_report.proofs.run.placed_on.Goals.{then-count-gt0, else-count-gt0}

pub loop-index-preserved : goal.loop-index-preserved
loop-index-preserved c =
    let l = c.loop-index in
    let labels = on_queue c.args.at (standing_in c.args.place.now).labels in
    let count = c.plain_count-count.result in
    let low : l.index < length labels = omega (arith, c.loop-index-test.true, c.placed_count-index-end.ensures) in
    let bit : Bool → ℕ = λ b. cond b 1 0 in
    let after : c.if-count-gt0.batches ≡ l.batches + one_if count = elim c.if-count-gt0.branch [
      | then-count-gt0 w ↦ (let some : one_if count ≡ 1 = ap bit (lt-ltb 0 count w.if-count-gt0.true) in omega (arith, some, w.batches-is))
      | else-count-gt0 w ↦ (let none : one_if count ≡ 0 = ap bit (le-ltb 0 count w.if-count-gt0.false) in omega (arith, none, w.batches-is))
    ] in
    one_placed labels l.index l.batches l.operations count c.if-count-gt0.batches low c.plain_count-count.ensures after c.plain_count-count.type_inv l.invariant
