use Rattle.std.proofs.Common.{◌++◌, [], ◌∷◌, get_or, take, length, ap, ◌∙◌, arith}
use Rattle.acc_place.specs.declared.directive.Clause.TheVariants.{Copy}
use Rattle.acc_place.specs.declared.directive.DataItem.{DataItem}
use Rattle.acc_place.proofs.LoopItems.{taken_more, length_taken}
use Rattle.acc_place.proofs.loops.add_items.Goals as goal

abbrev no_item : DataItem
no_item = record { clause = Copy; range = record { array = 0; lo = 0; len = 0 } }

pub loop-item-preserved : goal.loop-item-preserved
loop-item-preserved c =
    let items = c.args.items.now in
    let had = c.loop-item.into.items in
    let here = get_or items c.loop-item.item-index no_item in
    record {
      items =
          c.add_item.ensures.items
          ∙ (ap (λ xs. take 17 (xs ++ here ∷ [])) c.loop-item.invariant.items
          ∙ taken_more 17 c.args.into.now.items items c.loop-item.item-index no_item c.loop-item-test.true);
      within = omega (arith, length_taken 17 (had ++ here ∷ []), ap length c.add_item.ensures.items, c.add_item.new.into.ok.0);
      room = c.add_item.ensures.room ∙ c.loop-item.invariant.room;
    }
