use Rattle.std.proofs.Common.{◌∙◌}
use Rattle.acc_script.specs.Arrays.{texts}
use Rattle.acc_steps.specs.Lines.{item_text}
use Rattle.acc_steps.proofs.PutSteps.{puts_more}
use Rattle.acc_steps.proofs.words.put_entry.Goals as goal

pub loop-item-preserved : goal.loop-item-preserved
loop-item-preserved g c =
    let directive = c.in-Some-Accepted.directive in
    let items = c.as_slice-item-items.ensures ∙ c.items.ensures in
    puts_more (item_text (texts c.args.names.now) c.args.world.now directive.device) directive.items c.loop-item.item-index _ (rw items at c.loop-item-test.true)
    c.loop-item.invariant (rw (c.device.ensures, items) at c.put_item.ensures)
