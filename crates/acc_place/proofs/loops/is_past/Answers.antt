use Rattle.std.proofs.Common.{◌∙◌, sym}
use Rattle.std.proofs.lemmas.List.Elements.{All-more}
use Rattle.acc_place.specs.Loops.{StaysInsideOf}
use Rattle.acc_place.proofs.LoopReach.{past_more, stays_after_all}
use Rattle.acc_place.proofs.loops.is_past.Goals as goal

pub loop-array-preserved : goal.loop-array-preserved
loop-array-preserved c =
    let k = c.args.kernel.now in
    let items = c.args.items.now in
    let arrays = c.arrays-arrays.result.now in
    let at = c.loop-array.array-index in
    record {
      past = past_more k items arrays at 0 c.loop-array-test.true c.loop-array.invariant.past (sym c.reaches_past.ensures.past ∙ c.if-reaches_past.false);
      held = All-more (StaysInsideOf k items) arrays at 0 c.loop-array-test.true c.loop-array.invariant.held (c.reaches_past.ensures.held c.if-reaches_past.false);
    }

pub returns-clause-held : goal.returns-clause-held
returns-clause-held c =
    λ inside.
    stays_after_all c.args.kernel.now c.args.items.now c.arrays-arrays.result.now c.loop-array.array-index c.arrays-arrays.ensures c.loop-array-test.false c.loop-array.invariant.held
