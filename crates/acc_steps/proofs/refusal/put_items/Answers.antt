use Rattle.std.proofs.Common.{◌<◌, length, arith}
use Rattle.acc_script.specs.Arrays.{texts}
use Rattle.acc_place.specs.declared.directive.DataItem.{DataItem}
use Rattle.acc_steps.specs.Lines.{standing_text}
use Rattle.acc_steps.proofs.PutSteps.{puts_more}
use Rattle.acc_steps.proofs.refusal.put_items.Goals as goal

pub loop-item-preserved : goal.loop-item-preserved
loop-item-preserved g c =
    let below : c.loop-item.item-index < length c.args.items.now = omega (arith, c.loop-item-test.true) in
    puts_more (λ (i : DataItem). standing_text (texts c.args.names.now) c.args.world.now c.args.device i.range) c.args.items.now c.loop-item.item-index _ below c.loop-item.invariant c.put_stand.ensures
