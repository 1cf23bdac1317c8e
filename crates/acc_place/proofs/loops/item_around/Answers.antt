use Rattle.std.proofs.Common.{◌+◌, drop, sym, ap, ◌∙◌}
use Rattle.std.specs.Option.{option_or}
use Rattle.acc_place.specs.Implicit.{item_of, items_around}
use Rattle.acc_place.proofs.LoopItems.{around_from}
use Rattle.acc_place.proofs.loops.item_around.Goals as goal

pub returns-in-Some : goal.returns-in-Some
returns-in-Some c =
    let rest = item_of c.args.array (items_around c.args.host c.args.device (drop (c.loop-region.region-index + 1) c.args.regions.now)) in
    let from = around_from c.args.array c.args.host c.args.device c.args.regions.now c.loop-region.region-index c.region-item.result c.loop-region-test.true c.region-item.is in
    ap (λ o. option_or o rest) c.in-Some.ensures ∙ (sym from ∙ c.loop-region.invariant)

pub loop-region-preserved : goal.loop-region-preserved
loop-region-preserved c =
    let rest = item_of c.args.array (items_around c.args.host c.args.device (drop (c.loop-region.region-index + 1) c.args.regions.now)) in
    let from = around_from c.args.array c.args.host c.args.device c.args.regions.now c.loop-region.region-index c.region-item.result c.loop-region-test.true c.region-item.is in
    ap (λ o. option_or o rest) c.in_default.ensures ∙ (sym from ∙ c.loop-region.invariant)
